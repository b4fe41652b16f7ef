use Rattle.std.proofs.Common.{sym, ◌∙◌}
use Rattle.std.proofs.lemmas.Result.{IfOk-weaker}
use Rattle.ml_replies.specs.Answers.{reply_of}
use Rattle.ml_answers.proofs.SameSets.{comes_all, comes_rest}
use Rattle.ml_answers.proofs.checking.judge_next.Goals as goal

pub returns-in_ok-standing-clause-comes : goal.returns-in_ok-standing-clause-comes
returns-in_ok-standing-clause-comes c = λ R agrees.
    let s = c.args.specification.now in
    let a = c.args.answer.now in
    comes_rest s.logic s.items.items R c.args.rest.now a.question (reply_of a.statement) c.in_ok-standing.standing
    (sym c.is_of_conflict.ensures ∙ c.if-is_of_conflict.true) agrees c.in_ok-standing.ensures

pub returns-else-is_of_conflict-clause-comes : goal.returns-else-is_of_conflict-clause-comes
returns-else-is_of_conflict-clause-comes c =
    let s = c.args.specification.now in
    let a = c.args.answer.now in
    IfOk-weaker c.judge-else-is_of_conflict.result _ _
    (λ t is R agrees.
    comes_all s.logic s.items.items R c.args.all.now a.question (reply_of a.statement) t
    (sym c.is_of_conflict.ensures ∙ c.if-is_of_conflict.false) c.requires.all is)
    c.judge-else-is_of_conflict.ensures
