use Rattle.std.proofs.Common.{subst}
use Rattle.ml_replies.specs.Replies.{MeetsAs}
use Rattle.ml_spec.specs.Questions.{is_in}
use Rattle.ml_answers.proofs.judging.judge_model.Goals as goal

pub returns-in-Ok-No : goal.returns-in-Ok-No
returns-in-Ok-No c =
    let s = c.args.specification.now in
    let m = c.args.model.now in
    subst (MeetsAs s.logic s.items.items (is_in c.args.taken.now) c.args.question m.structure m.start)
    c.in-Ok-No.field-0-is c.in-Ok-No.ensures

pub returns-in-Ok-Unknown : goal.returns-in-Ok-Unknown
returns-in-Ok-Unknown c =
    let s = c.args.specification.now in
    let m = c.args.model.now in
    subst (MeetsAs s.logic s.items.items (is_in c.args.taken.now) c.args.question m.structure m.start)
    c.in-Ok-Unknown.field-0-is c.in-Ok-Unknown.ensures
