use Rattle.std.proofs.Common.{◌≡◌, ℕ, true, length}
use Rattle.ml_spec.specs.Questions.{is_in}
use Rattle.ml_ask.proofs.narrowing.narrow.Given as goal

abbrev pub invariant-loop : goal.invariant-loop
invariant-loop l = record {
  are_told : length l.taken.items ≡ length l.asked.specification.now.items.items;
  are_among : (k : ℕ) → is_in l.taken.items k ≡ true → is_in l.asked.among.now k ≡ true;
}
