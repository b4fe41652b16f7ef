-- The vertices in front of `at` are given.
use Rattle.ml_parity.specs.Solution.{winner_at}
use Rattle.ml_parity.specs.private.SolverSteps.{place_of, Gives}
use Rattle.ml_parity.proofs.zielonka.vertex_order.give.Given as goal

abbrev pub invariant-loop-at : goal.invariant-loop-at
invariant-loop-at l = Gives (place_of l.row.place.items) l.at l.rest l.player (winner_at l.initial.winner)
    (winner_at l.winner)
