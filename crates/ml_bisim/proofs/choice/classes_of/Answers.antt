use Rattle.std.proofs.Common.{◌↔◌, ◌∙◌, Contains, ap, map, subst}
use Rattle.std.proofs.lemmas.List.{take_all}
use Rattle.ml_bisim.specs.Quotient.{class_of}
use Rattle.ml_bisim.proofs.choice.classes_of.Goals as goal

pub returns : goal.returns
returns c = λ x.
    let class = c.args.class.now in
    let all = take_all c.loop-state.state-index c.args.states.now c.loop-state-test.false in
    subst (λ ys. Contains c.ascend.new.items.items x ↔ Contains ys x)
    (c.loop-state.invariant ∙ ap (map (class_of class)) all) (c.ascend.ensures.same x)
