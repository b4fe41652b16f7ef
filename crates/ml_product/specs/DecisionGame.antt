-- The decision game of a graph.
--
-- Even builds a structure that meets the graph, and Odd looks for a trace whose least fixpoints are never fulfilled. At a
-- position whose spread clashes the game is lost for Even. Where an or-node of the spread is open, Even chooses a side of
-- the least one. Where none is, and there are diamonds, each of them asks for a next state, and Odd chooses which one to
-- look at. Where there are none either, a state that needs no next one was found, and the game is won.
--
--   Verdict             == clashing; an or-node is open; diamonds, of which there is one; settled
--   diamonds_of g sp    == the diamonds of the spread, ascending
--   IsVerdictOf g sp v  == what is done where the spread is sp; exactly one of the four
--   Target              == where a move leads: to a position, to Lost or to Won
--   AreMoves g p sp v ts == the moves from p, in their order, of which one may stand there twice
--   Turn g p            == the spread of p, its verdict and its moves
--   IsReached g p       == p is the start, or a move leads to it from a position that is reached
--   HasMoreThan g n     == more than n different positions are reached
use Rattle.std.specs.Prelude.{ℕ, ◌≡◌, ◌<◌, List, [], ◌∷◌, filter, length}
use Rattle.ml_lists.specs.Member.{IsMember}
use Rattle.ml_graph.specs.Graph.{Graph, node_at}
use Rattle.ml_sequent.specs.declared.choice.Side.TheVariants.{Left, Right}
use Rattle.ml_sequent.specs.declared.clashes.ClashCause.{ClashCause}
use Rattle.ml_sequent.specs.Spread.{SpreadList, IsSpreadOf, IsCause, IsOpenOr, IsLeastOpenOr, is_diamond}
use Rattle.ml_product.specs.Position.{Position, start_of, with_chosen, Follows}

pub data Verdict : Type 0 where
  Clashing : Verdict
  Open : ℕ → Verdict
  Leading : List ℕ → Verdict
  Settled : Verdict

abbrev pub diamonds_of : Graph → SpreadList → List ℕ
diamonds_of g sp = filter (λ n. is_diamond (node_at g n)) sp.nodes

-- nothing clashes, and no or-node is open
pub record IsResolved (g : Graph) (sp : SpreadList) : Type 0 where
  pub no_clash : (x : ClashCause) → ¬ (IsCause g sp x)
  pub none_open : (n : ℕ) → ¬ (IsOpenOr g sp n)

abbrev pub IsVerdictOf : Graph → SpreadList → Verdict → Type 0
IsVerdictOf g sp Clashing = (x : ClashCause) × IsCause g sp x
IsVerdictOf g sp (Open o) = ((x : ClashCause) → ¬ (IsCause g sp x)) × IsLeastOpenOr g sp o
IsVerdictOf g sp (Leading ds) = IsResolved g sp × (ds ≡ diamonds_of g sp) × (0 < length ds)
IsVerdictOf g sp Settled = IsResolved g sp × (diamonds_of g sp ≡ [])

-- ---- moves

pub data Target : Type 0 where
  To : Position → Target
  Lost : Target
  Won : Target

-- the steps along these diamonds, one for each
abbrev pub AreSteps : Graph → Position → SpreadList → List ℕ → List Target → Type 0
AreSteps g p sp [] targets = targets ≡ []
AreSteps g p sp (d ∷ ds) targets =
    (q : Position) × (others : List Target) × Follows g p sp d q × AreSteps g p sp ds others × (targets ≡ To q ∷ others)

abbrev pub AreMoves : Graph → Position → SpreadList → Verdict → List Target → Type 0
AreMoves g p sp Clashing targets = targets ≡ Lost ∷ []
AreMoves g p sp (Open o) targets = targets ≡ To (with_chosen g p o Left) ∷ To (with_chosen g p o Right) ∷ []
AreMoves g p sp (Leading ds) targets = AreSteps g p sp ds targets
AreMoves g p sp Settled targets = targets ≡ Won ∷ []

pub record Turn (g : Graph) (p : Position) : Type 0 where
  pub spread : SpreadList
  pub verdict : Verdict
  pub targets : List Target
  pub is_spread : IsSpreadOf g p.sequent p.choice spread
  pub is_verdict : IsVerdictOf g spread verdict
  pub are_moves : AreMoves g p spread verdict targets

-- ---- what is reached

pub data IsReached (g : Graph) : Position → Type 0 where
  at_start : IsReached g (start_of g)
  by_move : (p q : Position) (t : Turn g p) → IsReached g p → IsMember (To q) t.targets → IsReached g q

-- no position stands there twice
abbrev pub AreDifferent : List Position → Type 0
AreDifferent [] = Unit {0}
AreDifferent (p ∷ ps) = ¬ (IsMember p ps) × AreDifferent ps

pub record HasMoreThan (g : Graph) (n : ℕ) : Type 0 where
  pub positions : List Position
  pub are_different : AreDifferent positions
  pub are_reached : (p : Position) → IsMember p positions → IsReached g p
  pub are_more : n < length positions
