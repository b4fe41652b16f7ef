-- The moves to the vertices in front of `at` are counted.
use Rattle.ml_parity.specs.private.SolverSteps.{place_of, number_at, IsLeft}
use Rattle.ml_parity.proofs.zielonka.attractor.restore.Given as goal

abbrev pub invariant-loop-at : goal.invariant-loop-at
invariant-loop-at l = IsLeft l.game (place_of l.row.place.items) l.at (number_at l.left)
