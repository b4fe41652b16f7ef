-- Each problem has an answer.
--
-- The closure of the problem is too large, or it has a graph. The game of this passes the limit, or has an arena. The arena's
-- game has a solution, and by it Even wins the first position, and there is a model; or Odd does, and there is a refutation.
--
--   some_decision   == the law
use Rattle.std.proofs.Common.{◌≡◌, ℕ, ◌<◌, ◌≤◌, ◌^◌, ◌⊎◌, length, inl, inr, refl, arith}
use Rattle.ml_graph.specs.Graph.{Graph}
use Rattle.ml_parity.specs.Solution.{GameSolution, IsSolution, winner_at}
use Rattle.ml_parity.specs.declared.players.Player.{Player}
use Rattle.ml_parity.specs.declared.players.Player.TheVariants.{Even, Odd}
use Rattle.ml_product.specs.Arena.{Arena, IsArenaOf, game_of}
use Rattle.ml_product.specs.DecisionGame.{HasMoreThan}
use Rattle.ml_product.proofs.ArenaGame.{is_game}
use Rattle.ml_product.proofs.SomeSolution.{some_solution}
use Rattle.ml_front.proofs.HeldGraphs.{HeldGraph, IsHeld, held_graph}
use Rattle.ml_front.specs.Graphs.{HasLargeClosure}
use Rattle.ml_front.specs.Logics.{IsWellFormed}
use Rattle.ml_front.specs.declared.problem.Problem.{Problem}
use Rattle.ml_front.specs.declared.problem.TheConstants.{MOST_NODES}
use Rattle.ml_decide.specs.Laws.{HasAnswer, SomeDecision, by_refutation, by_structure, left_open}
use Rattle.ml_decide.specs.Limits.{IsClosed}
use Rattle.ml_decide.specs.declared.cause.Cause.TheVariants.{Closure, Positions}
use Rattle.ml_decide.specs.declared.way.Way.{Way}
use Rattle.ml_decide.specs.private.Translated.{IsTranslated}
use Rattle.ml_decide.proofs.Closed.{closed}
use Rattle.ml_decide.proofs.Decided.{met_by, open_by, refuted_by}
use Rattle.ml_decide.proofs.NamedModels.{has_names}
use Rattle.ml_decide.proofs.ProblemGraphs.{few_positions, keeps_limit, translated}
use Rattle.ml_decide.proofs.SomeArena.{some_arena}
use Rattle.ml_decide.proofs.Winners.{even_model, odd_refutation}

module _ (w : Way) (n : ℕ) (p : Problem) (small : n < 2 ^ 32) (well : IsWellFormed p.formula) where
  -- by the winner of the first position
  module _ (g : Graph) (is : IsTranslated p g) (held : IsHeld g) (is_closed : IsClosed w n p) (a : Arena)
      (arena : IsArenaOf g a) (few : length a.positions ≤ n) (s : GameSolution) (solved : IsSolution (game_of a) s) where
    by_even : winner_at s.winner 0 ≡ Even → HasAnswer w n p
    by_even wins =
        let x = even_model g is.small a arena s solved wins in
        by_structure is_closed x.structure x.start (met_by p g well is.is_graph_of x.structure x.start x.extracted)
        (record {
          is_structure = x.extracted.is_structure;
          has_names = has_names g a s x.structure x.start x.is_model x.extracted held;
          fits = omega (arith, x.few_states, few, small);
          is_state = x.extracted.is_state;
        }) x.is_model.nothing_twice

    by_odd : winner_at s.winner 0 ≡ Odd → HasAnswer w n p
    by_odd wins =
        let x = odd_refutation g is.small a arena s solved held.priorities (omega (arith, few, small)) wins in
        by_refutation is_closed x.refutation
        (refuted_by p g well is.is_graph_of x.refutation x.is_refutation x.is_accepted)

    by_winner : (x : Player) → winner_at s.winner 0 ≡ x → HasAnswer w n p
    by_winner Even wins = by_even wins
    by_winner Odd wins = by_odd wins

  by_game : (g : Graph) → IsTranslated p g → IsHeld g
      → ((a : Arena) × (IsArenaOf g a × (length a.positions ≤ n))) ⊎ HasMoreThan g n
      → HasAnswer w n p
  by_game g is held (inr more) = left_open (Positions n) (open_by n p g is more)
  by_game g is held (inl (a, rest)) =
      let keeps = keeps_limit p g n is.is_graph_of (few_positions g a n rest.0 rest.1) in
      let s = some_solution (game_of a) (is_game g a rest.0) in
      by_winner g is held (closed w n p is.fits keeps) a rest.0 rest.1 s.0 s.1 (winner_at s.0.winner 0) refl

  by_closure : HeldGraph p.formula p.negated ⊎ HasLargeClosure p MOST_NODES → HasAnswer w n p
  by_closure (inr large) = left_open Closure large
  by_closure (inl h) =
      let is = translated p h.graph well h.is_graph h.fits in
      by_game h.graph is h.is_held (some_arena h.graph is.small.is_graph n)

pub some_decision : SomeDecision
some_decision w n p small well = by_closure w n p small well (held_graph p.formula p.negated well)
