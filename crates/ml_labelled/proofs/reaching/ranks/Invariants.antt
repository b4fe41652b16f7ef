use Rattle.std.proofs.Common.{◌≡◌, ◌<◌, ℕ, length, get_or}
use Rattle.ml_labelled.specs.private.Reaching.{rank}
use Rattle.ml_labelled.proofs.reaching.ranks.Given as goal

abbrev pub invariant-loop-is_marked : goal.invariant-loop-is_marked
invariant-loop-is_marked l = record {
  at_is : l.at ≡ rank l.marks l.is_marked-index;
  as_long : length l.numbers.items ≡ l.is_marked-index;
  are : (n : ℕ) → n < l.is_marked-index → get_or l.numbers.items n 0 ≡ rank l.marks n;
}
