use Rattle.std.proofs.Common.{◌+◌}
use Rattle.ml_word_check.specs.private.Truths.{ChangedTo, at}
use Rattle.ml_word_check.proofs.truths.shift.Given as goal

abbrev pub invariant-loop-i : goal.invariant-loop-i
invariant-loop-i l = ChangedTo (λ i. at l.initial.truths (i + 1)) l.initial.truths l.truths l.i
