use Rattle.std.proofs.Common.{arith, ◌≡◌, ◌∙◌, ◌++◌, ap, sym, subst, map, get_or}
use Rattle.ml_bisim.specs.private.Merged.{AreClassLabels}
use Rattle.ml_bisim.proofs.Merged.{at_class, labels_none, labels_more}
use Rattle.ml_bisim.proofs.merging.class_labels.Goals as goal

pub loop-state-init : goal.loop-state-init
loop-state-init c =
    subst (AreClassLabels c.args.structure.now c.args.class.now 0) (sym c.new-labels.ensures.items)
    (labels_none c.args.structure.now c.args.class.now)

pub loop-state-preserved : goal.loop-state-preserved
loop-state-preserved c =
    labels_more c.args.structure.now c.args.class.now c.loop-state.state c.loop-state.labels.items
    c.push_labels.new.labels.items c.loop-state.invariant
    (c.in_ok-push_labels.ensures
    ∙ ap (λ ps. c.loop-state.labels.items ++ map (at_class (get_or c.args.class.now c.loop-state.state 0)) ps)
    c.labels_of.ensures)

pub returns : goal.returns
returns c =
    let all : c.loop-state.state ≡ c.args.structure.now.states = omega (arith, c.states-state-end.ensures.value) in
    subst (λ k. AreClassLabels c.args.structure.now c.args.class.now k c.loop-state.labels.items) all
    c.loop-state.invariant
