use Rattle.std.proofs.Common.{◌≡◌, ◌<◌, ◌-◌, length}
use Rattle.ml_word_check.specs.private.Truths.{at, cycles, next_in}
use Rattle.ml_word_check.proofs.cycles.ahead.Given as goal

abbrev pub invariant-loop-looked : goal.invariant-loop-looked
invariant-loop-looked l = record {
  inside : l.here < length l.right;
  same_value : cycles l.cycle (next_in (length l.right) l.start) (at l.left) (at l.right) (length l.right) l.place
      ≡ cycles l.cycle (next_in (length l.right) l.start) (at l.left) (at l.right) (length l.right - l._looked) l.here;
}
