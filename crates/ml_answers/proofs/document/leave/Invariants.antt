use Rattle.ml_answers.proofs.Leaving.{IsLeftTo}
use Rattle.ml_answers.proofs.document.leave.Given as goal

abbrev pub invariant-loop-number : goal.invariant-loop-number
invariant-loop-number l = IsLeftTo l.fn.among l.taken l.number l.among
