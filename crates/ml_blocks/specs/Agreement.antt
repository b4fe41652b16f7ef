-- The game on the graph of a problem of CTL* or LTL, and the problem's meaning.
--
-- Meanings are propositions, and some path among endlessly many decides: so agreement is said of both sides at once. It says
-- too that it is decided where a problem holds.
--
--   Agrees g m s P      == P holds, and Even wins the root of g at s; or P fails, and Odd wins it
--   AgreesWith g P      == so it is at each state of each structure of which CTL* and LTL speak, of any number of states
--   HoldsWhere g P      == there the graph holds exactly where P does
--   GraphsAgree, GraphsHold == of each problem of CTL*, plain and negated: its graph agrees with it, and holds where it does
--   LinearGraphsAgree, LinearGraphsHold == the same of each problem of LTL; its formula may have quantifiers here
use Rattle.std.specs.Prelude.{ℕ, ◌≡◌, ◌<◌, ◌⊎◌, ◌↔◌, Bool, true}
use Rattle.ml_base.specs.Structure.{Structure}
use Rattle.ml_parity.specs.declared.players.Player.TheVariants.{Odd}
use Rattle.ml_parity.specs.Winner.{Wins}
use Rattle.ml_graph.specs.CheckingGame.{Pair, Holds, checking_game, vertex_number}
use Rattle.ml_graph.specs.Graph.{Graph}
use Rattle.ml_ctl.specs.Formula.{Formula}
use Rattle.ml_ctl.specs.Sorts.{is_state}
use Rattle.ml_ctl.specs.Problem.{HoldsAt, IsAdmitted}
use Rattle.ml_ltl.specs.Problem as ltl
use Rattle.ml_blocks.specs.BlockGraph.{IsGraphAt, start_of, linear_start_of}

abbrev pub Agrees : Graph → Structure → ℕ → Type 0 → Type 0
Agrees g m s P = (P × Holds g m s) ⊎ ((P → ⊥) × Wins (checking_game g m) Odd (vertex_number g m (Pair s g.root)))

abbrev pub AgreesWith : Graph → (Structure → ℕ → Type 0) → Type 0
AgreesWith g P = (m : Structure) → IsAdmitted m → (s : ℕ) → s < m.states → Agrees g m s (P m s)

abbrev pub HoldsWhere : Graph → (Structure → ℕ → Type 0) → Type 0
HoldsWhere g P = (m : Structure) → IsAdmitted m → (s : ℕ) → s < m.states → Holds g m s ↔ P m s

abbrev pub GraphsAgree : Type 0
GraphsAgree =
    (f : Formula) (negated : Bool) (g : Graph)
    → is_state f ≡ true
    → IsGraphAt g (start_of f negated)
    → AgreesWith g (λ m s. HoldsAt m s f negated)

abbrev pub GraphsHold : Type 0
GraphsHold =
    (f : Formula) (negated : Bool) (g : Graph)
    → is_state f ≡ true
    → IsGraphAt g (start_of f negated)
    → HoldsWhere g (λ m s. HoldsAt m s f negated)

abbrev pub LinearGraphsAgree : Type 0
LinearGraphsAgree =
    (f : Formula) (negated : Bool) (g : Graph)
    → IsGraphAt g (linear_start_of f negated)
    → AgreesWith g (λ m s. ltl.HoldsAt m s f negated)

abbrev pub LinearGraphsHold : Type 0
LinearGraphsHold =
    (f : Formula) (negated : Bool) (g : Graph)
    → IsGraphAt g (linear_start_of f negated)
    → HoldsWhere g (λ m s. ltl.HoldsAt m s f negated)
