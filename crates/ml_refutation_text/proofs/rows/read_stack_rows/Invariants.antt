use Rattle.std.proofs.Common.{ℕ, ◌≡◌, ◌-◌, ◌^◌, min, length}
use Rattle.ml_refutation_text.proofs.TablesRead.{StacksTo}
use Rattle.ml_refutation_text.proofs.rows.read_stack_rows.Given as goal

abbrev pub invariant-rows : goal.invariant-rows
invariant-rows l = (count : ℕ) → l.size ≡ min count (2 ^ 64 - 1) → StacksTo l.names count l.fn.at l.rows l.rest

abbrev pub decreases-rows : goal.decreases-rows
decreases-rows l = length l.rest.text.now
