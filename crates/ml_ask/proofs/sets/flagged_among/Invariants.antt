use Rattle.std.proofs.Common.{◌≡◌, ℕ, true, length}
use Rattle.ml_spec.specs.Questions.{is_in}
use Rattle.ml_ask.proofs.sets.flagged_among.Given as goal

abbrev pub invariant-loop-number : goal.invariant-loop-number
invariant-loop-number l = record {
  are_told : length l.flagged.items ≡ length l.among;
  are_among : (k : ℕ) → is_in l.flagged.items k ≡ true → is_in l.among k ≡ true;
}
