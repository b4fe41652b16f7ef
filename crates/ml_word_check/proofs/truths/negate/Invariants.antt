use Rattle.std.proofs.Common.{not}
use Rattle.ml_word_check.specs.private.Truths.{ChangedTo, at}
use Rattle.ml_word_check.proofs.truths.negate.Given as goal

abbrev pub invariant-loop-i : goal.invariant-loop-i
invariant-loop-i l = ChangedTo (λ i. not (at l.initial.truths i)) l.initial.truths l.truths l.i
