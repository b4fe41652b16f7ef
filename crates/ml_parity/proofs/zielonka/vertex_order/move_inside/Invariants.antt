-- No move so far leads inside.
use Rattle.std.proofs.Common.{ℕ, ◌<◌, ◌≤◌, get_or}
use Rattle.ml_parity.specs.private.SolverSteps.{place_of}
use Rattle.ml_parity.proofs.zielonka.vertex_order.move_inside.Given as goal

abbrev pub invariant-loop-to : goal.invariant-loop-to
invariant-loop-to l = (k : ℕ) → k < l.to-index → l.count ≤ place_of l.row.place.items (get_or l.to-items k 0)
