use Rattle.std.proofs.Common.{ap, sym, subst, ◌∙◌}
use Rattle.std.specs.Prelude.{IfOk}
use Rattle.ml_replies.specs.Answers.{without_of}
use Rattle.ml_replies.specs.Meeting.{without}
use Rattle.ml_replies.specs.Replies.{FailsByCheck, IsShown}
use Rattle.ml_spec.specs.Questions.{is_in}
use Rattle.ml_answers.specs.Checked.{IsShownWithout, IsWrongWithout}
use Rattle.ml_answers.specs.private.Judged.{ComesTo}
use Rattle.ml_answers.proofs.judging.judge_part.Goals as goal

pub returns-in_ok-others-in-Met : goal.returns-in_ok-others-in-Met
returns-in_ok-others-in-Met c =
    let s = c.args.specification.now in
    let xs = s.items.items in
    let q = c.args.question in
    let m = c.in-Met.model in
    let S = without (is_in c.args.taken.now) c.args.part.now.requirement in
    let same = ap is_in c.deref.ensures.value ∙ c.in_ok-others-in-Met.ensures.without in
    subst
    (λ w. IfOk c.judge_model.result (ComesTo (IsShownWithout s.logic xs S q w) (IsWrongWithout s.logic xs S q w)))
    (sym (ap without_of c.in-Met.is))
    (subst
    (λ T. IfOk c.judge_model.result
    (ComesTo (IsShown s.logic xs T q m.structure m.start) (FailsByCheck s.logic xs T q m.structure m.start)))
    same c.judge_model.ensures)
