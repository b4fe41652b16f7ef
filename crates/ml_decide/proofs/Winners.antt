-- What the winner of the first position tells of a graph, and of a problem.
--
--   EvenModel, even_model == where Even wins, there is a model of a graph, of at most as many states as the game has positions
--   Refuted, odd_refutation == where Odd wins, a refutation of it is accepted
--   few_priorities   == the priorities of a graph of a problem are numbers of 32 bits
--   even_wins        == where Even wins, the problem is satisfiable
--   odd_wins         == where Odd wins, it isn't
use Rattle.std.proofs.Common.{◌≡◌, ◌⊎◌, ℕ, ◌<◌, ◌≤◌, ◌^◌, length, inl, inr, subst, arith}
use Rattle.ml_base.specs.Structure.{Structure}
use Rattle.ml_lists.specs.Member.{IsMember}
use Rattle.ml_lists.proofs.Member.{member-All}
use Rattle.ml_extract.specs.Extraction.{EvenWins, Extracted}
use Rattle.ml_extract.specs.Model.{IsModelOf}
use Rattle.ml_extract.proofs.Loops.{models_hold}
use Rattle.ml_extract.proofs.SomeModel.{some_model}
use Rattle.ml_front.proofs.AlikeGraphs.{same_priorities}
use Rattle.ml_front.proofs.Graphs.{graphs_alike}
use Rattle.ml_front.specs.Graphs.{HasLargeClosure}
use Rattle.ml_front.specs.Logics.{IsWellFormed}
use Rattle.ml_front.specs.Problems.{IsSatisfiable}
use Rattle.ml_front.specs.declared.problem.Problem.{Problem}
use Rattle.ml_front.specs.declared.problem.TheConstants.{MOST_NODES}
use Rattle.ml_graph.specs.Graph.{Graph}
use Rattle.ml_parity.specs.Game as games
use Rattle.ml_parity.specs.Solution.{GameSolution, IsSolution, winner_at}
use Rattle.ml_parity.specs.Winner.{Wins}
use Rattle.ml_parity.specs.declared.players.Player.TheVariants.{Even, Odd}
use Rattle.ml_product.specs.Arena.{Arena, IsArenaOf, game_of}
use Rattle.ml_product.proofs.ArenaGame.{size_is}
use Rattle.ml_refutation.specs.Acceptance.{IsAccepted}
use Rattle.ml_refutation.specs.Refutation.{Fits, IsRefutation, Refutation}
use Rattle.ml_refute.proofs.Accepted.{extracted_accepted}
use Rattle.ml_refute.proofs.Entries.{Extraction}
use Rattle.ml_refute.proofs.SomeRefutation.{some_refutation}
use Rattle.ml_refute.proofs.WellFormed.{extracted_refutation}
use Rattle.ml_front.proofs.HeldGraphs.{HeldGraph, held_graph}
use Rattle.ml_decide.specs.private.Translated.{IsSmall, IsTranslated}
use Rattle.ml_decide.proofs.Decided.{met_by, refuted_by}
use Rattle.ml_decide.proofs.OneDecision.{met_is_satisfiable}

pub record EvenModel (g : Graph) (a : Arena) (s : GameSolution) : Type 0 where
  pub structure : Structure
  pub start : ℕ
  pub is_model : IsModelOf g a s structure start
  pub few_states : structure.states ≤ length a.positions
  pub extracted : Extracted g structure start

pub record Refuted (g : Graph) : Type 0 where
  pub refutation : Refutation
  pub is_refutation : IsRefutation refutation
  pub is_accepted : IsAccepted g refutation

module _ (g : Graph) (small : IsSmall g) (a : Arena) (arena : IsArenaOf g a) (s : GameSolution)
    (solved : IsSolution (game_of a) s) where
  first_low : 0 < games.size (game_of a)
  first_low = omega (arith, size_is g a arena)

  pub even_model : winner_at s.winner 0 ≡ Even → EvenModel g a s
  even_model is =
      let even : EvenWins g a s = record {
        is_graph = small.is_graph;
        is_arena = arena;
        is_solution = solved;
        wins = subst (λ x. Wins (game_of a) x 0) is (solved.right 0 first_low);
      } in
      let made = some_model g a s even in
      record {
        structure = made.0;
        start = made.1.0;
        is_model = made.1.1.0;
        few_states = made.1.1.1;
        extracted = models_hold g a s made.0 made.1.0 even made.1.1.0;
      }

  pub odd_refutation : ((k : ℕ) → IsMember k g.priorities → Fits k)
      → length a.positions < 2 ^ 32
      → winner_at s.winner 0 ≡ Odd
      → Refuted g
  odd_refutation low few is =
      let made = some_refutation g a s small.is_graph arena solved is in
      let x : Extraction = record { g = g; a = a; arena = arena; s = s; r = made.0; o = made.1.outline } in
      let nodes = small.few_nodes in
      record {
        refutation = made.0;
        is_refutation =
            extracted_refutation x small.is_graph (omega (arith, nodes)) made.1.heights (member-All Fits g.priorities low)
            (omega (arith, few));
        is_accepted = extracted_accepted x made.1.heights;
      }

module _ (p : Problem) (well : IsWellFormed p.formula) (g : Graph) (is : IsTranslated p g) where
  few_priorities : (k : ℕ) → IsMember k g.priorities → Fits k
  few_priorities = by_held (held_graph p.formula p.negated well)
    where
      by_held : HeldGraph p.formula p.negated ⊎ HasLargeClosure p MOST_NODES
          → (k : ℕ)
          → IsMember k g.priorities
          → Fits k
      by_held (inl h) =
          let alike = graphs_alike p h.graph g h.is_graph is.is_graph_of in
          subst (λ ks. (k : ℕ) → IsMember k ks → Fits k) (same_priorities h.graph g alike) h.is_held.priorities
      by_held (inr large) = absurd (is.fits large)

  module _ (a : Arena) (arena : IsArenaOf g a) (s : GameSolution) (solved : IsSolution (game_of a) s) where
    pub even_wins : winner_at s.winner 0 ≡ Even → IsSatisfiable p
    even_wins wins =
        let m = even_model g is.small a arena s solved wins in
        met_is_satisfiable p m.structure m.start (met_by p g well is.is_graph_of m.structure m.start m.extracted)

    pub odd_wins : length a.positions < 2 ^ 32 → winner_at s.winner 0 ≡ Odd → ¬ (IsSatisfiable p)
    odd_wins few wins =
        let r = odd_refutation g is.small a arena s solved few_priorities few wins in
        let refuted = refuted_by p g well is.is_graph_of r.refutation r.is_refutation r.is_accepted in
        refuted.is_unsatisfiable
