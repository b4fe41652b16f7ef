use Rattle.std.proofs.Common.{◌≡◌, ℕ, true, length}
use Rattle.ml_spec.specs.Questions.{is_in}
use Rattle.ml_ask.proofs.searching.leave_out.Given as goal

abbrev pub invariant-loop : goal.invariant-loop
invariant-loop l = record {
  are_told : length l.clash.items ≡ length l.initial.clash.items;
  are_open : length l.untried.items ≡ length l.initial.clash.items;
  are_among : (k : ℕ) → is_in l.clash.items k ≡ true → is_in l.initial.clash.items k ≡ true;
}
