use Rattle.std.proofs.Common.{sym, subst}
use Rattle.std.specs.Prelude.{IfOk}
use Rattle.ml_spec.specs.Questions.{is_in}
use Rattle.ml_replies.specs.Answers.{reply_of}
use Rattle.ml_answers.specs.Checked as checked
use Rattle.ml_answers.specs.Checked.{IsShownBy}
use Rattle.ml_answers.specs.private.Judged.{ComesTo}
use Rattle.ml_answers.proofs.judging.judge.Goals as goal

pub returns-in-Yes : goal.returns-in-Yes
returns-in-Yes c =
    let s = c.args.specification.now in
    let xs = s.items.items in
    let q = c.args.question in
    let S = is_in c.args.among.now in
    subst (λ t. IfOk c.judge_model.result
    (ComesTo (IsShownBy s.logic xs S q (reply_of t)) (checked.IsWrong s.logic xs S q (reply_of t))))
    (sym c.in-Yes.is) c.judge_model.ensures
