use Rattle.std.proofs.Common.{sym, ap, subst, ◌∙◌}
use Rattle.ml_sequent.specs.Choice.{IsChoice, with_side}
use Rattle.ml_sequent.proofs.Choices.{with_is_choice}
use Rattle.ml_sequent.proofs.choice.Choice.with.Goals as goal

pub invariant_of-result : goal.invariant_of-result
invariant_of-result c =
    subst IsChoice (sym (c.in_ok-pairs.ensures ∙ ap (λ pairs. with_side pairs c.args.node c.args.side) (c.deref.ensures.value ∙ c.self.view_is)))
    (with_is_choice c.args.self.now c.args.node c.args.side (subst IsChoice c.self.view_is c.self.invariant) c.requires)
