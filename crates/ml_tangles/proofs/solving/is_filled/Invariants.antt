-- The vertices so far.
use Rattle.std.proofs.Common.{ℕ, ◌<◌}
use Rattle.ml_tangles.specs.private.Claimed.{IsFilledAt}
use Rattle.ml_tangles.proofs.solving.is_filled.Given as goal

abbrev pub invariant-loop-vertex : goal.invariant-loop-vertex
invariant-loop-vertex l = (k : ℕ) → k < l.vertex → IsFilledAt l.game l.winner l.choice k
