use Rattle.std.proofs.Common.{ap, subst, ◌∙◌}
use Rattle.ml_spec.specs.Questions.{is_in}
use Rattle.ml_replies.specs.Replies.{IsShown, MeetsAs}
use Rattle.ml_ask.proofs.leaving.meets_without.Goals as goal

pub returns-in-Ok-Yes : goal.returns-in-Ok-Yes
returns-in-Ok-Yes c = λ yes.
    let a = c.args.asked in
    let l = a.specification.now.logic in
    let xs = a.specification.now.items.items in
    let m = c.args.model.now in
    subst (λ S. IsShown l xs S a.question m.structure m.start)
    (ap is_in c.deref.ensures.value ∙ c.in_ok-rest.ensures.without)
    (subst (MeetsAs l xs (is_in c.deref.result.now) a.question m.structure m.start) c.in-Ok-Yes.field-0-is
    c.in-Ok-Yes.ensures)
