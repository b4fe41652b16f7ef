use Rattle.std.proofs.Common.{◌≡◌, ◌≤◌, ◌-◌, ℕ, [], length}
use Rattle.ml_labelled.specs.private.Views.{rows_of}
use Rattle.ml_translate.specs.private.Finding.{row_at}
use Rattle.ml_translate.proofs.edges.empty_rows.Given as goal

abbrev pub invariant-loop-alloc : goal.invariant-loop-alloc
invariant-loop-alloc l = record {
  few : length l.rows.items ≤ l.count;
  empty : (p : ℕ) → row_at (rows_of l.rows.items) p ≡ [];
}

abbrev pub decreases-loop-alloc : goal.decreases-loop-alloc
decreases-loop-alloc l = l.count - length l.rows.items
