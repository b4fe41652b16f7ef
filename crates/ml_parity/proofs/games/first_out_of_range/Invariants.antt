-- No vertex before the vertex has a successor out of range.
use Rattle.std.proofs.Common.{ℕ, ◌<◌}
use Rattle.ml_parity.specs.Refusal.{LeavesRange, lists_of}
use Rattle.ml_parity.proofs.games.first_out_of_range.Given as goal

abbrev pub invariant-loop-vertex : goal.invariant-loop-vertex
invariant-loop-vertex l = (k : ℕ) → k < l.vertex → LeavesRange (lists_of l.successors) l.size k → ⊥
