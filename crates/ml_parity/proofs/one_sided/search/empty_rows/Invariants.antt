-- So many rows so far, and no number in them.
use Rattle.std.proofs.Common.{ℕ, ◌≡◌, [], All, length}
use Rattle.std.specs.Global.{Vec}
use Rattle.ml_parity.proofs.one_sided.search.empty_rows.Given as goal

abbrev pub invariant-loop : goal.invariant-loop
invariant-loop l = record {
  size : length l.rows.items ≡ l.counter;
  empty : All (λ (r : Vec ℕ). r.items ≡ []) l.rows.items;
}
