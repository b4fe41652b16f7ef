use Rattle.ml_answers.proofs.Judgments.{AreJudgedTo}
use Rattle.ml_answers.proofs.checking.verdict.Given as goal

abbrev pub invariant-loop-answer : goal.invariant-loop-answer
invariant-loop-answer l =
    AreJudgedTo l.specification.logic l.specification.items.items l.stated l.answer-index l.rest.items l.unshown
