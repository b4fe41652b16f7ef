use Rattle.std.proofs.Common.{ap, subst, ◌∙◌}
use Rattle.std.specs.Prelude.{IfOk}
use Rattle.ml_replies.specs.Meeting.{problem_of}
use Rattle.ml_spec.specs.Questions.{is_in, joined_of}
use Rattle.ml_answers.specs.Checked.{IsNotRefuted, IsRefuted}
use Rattle.ml_answers.specs.private.Judged.{ComesTo}
use Rattle.ml_answers.specs.private.Plain.{plain}
use Rattle.ml_answers.proofs.Refuted.{problem_is}
use Rattle.ml_answers.proofs.judging.judge_refuted.Goals as goal

pub returns-in-Ok-Some : goal.returns-in-Ok-Some
returns-in-Ok-Some c =
    let s = c.args.specification.now in
    let xs = s.items.items in
    let q = c.args.question in
    let r = plain c.args.core.now.refutation in
    let formula = rw c.in-Ok-Some.field-0-is at c.in-Ok-Some.ensures.formula in
    let sense = rw c.in-Ok-Some.field-0-is at c.in-Ok-Some.ensures.plain in
    subst (λ p. IfOk c.judge_refutation.result (ComesTo (IsRefuted p r) (IsNotRefuted p r)))
    (problem_is c.in-Ok-Some.problem (joined_of s.logic (is_in c.deref.result.now) xs q) formula sense
    ∙ ap (λ bs. problem_of s.logic xs (is_in bs) q) c.deref.ensures.value)
    c.judge_refutation.ensures
