-- The rows before this one have the right length.
use Rattle.std.proofs.Common.{ℕ, ◌<◌, ◌≡◌, get_or, length, []}
use Rattle.ml_parity.specs.Refusal.{lists_of}
use Rattle.ml_parity.proofs.one_sided.check.has_shape.Given as goal

abbrev pub invariant-loop-row : goal.invariant-loop-row
invariant-loop-row l = (v : ℕ) → v < l.row-index → length (get_or (lists_of l.rows) v []) ≡ l.count
