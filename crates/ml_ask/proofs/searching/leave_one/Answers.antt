use Rattle.std.proofs.Common.{◌≡◌, true, ap, subst, ◌∙◌}
use Rattle.ml_spec.specs.Questions.{is_in}
use Rattle.ml_replies.proofs.Taken.{without_fewer}
use Rattle.ml_ask.proofs.searching.leave_one.Goals as goal

pub returns-in-Clash-clause-among : goal.returns-in-Clash-clause-among
returns-in-Clash-clause-among c =
    λ k taken.
    subst (λ bs. is_in bs k ≡ true) c.deref.ensures.value
    (without_fewer (is_in c.deref.result.now) c.args.number k
    (subst (λ T. T k ≡ true) (ap is_in c.deref-in-Clash.ensures.value ∙ c.in_ok-rest.ensures.without)
    (c.in_ok-clash-in-Clash.ensures.among k taken)))
