use Rattle.std.proofs.Common.{sym, subst}
use Rattle.ml_labelled.proofs.MergedStates.{IsMerged, fit_from, merged_from}
use Rattle.ml_labelled.proofs.merging.merged.Goals as goal

pub retarget_all-requires : goal.retarget_all-requires
retarget_all-requires c =
    fit_from c.args.automaton c.in_ok-targets.targets.items c.deref.result.now c.edges.result.now
    c.into_parts-props.result.1.items c.into_parts-props.result.0.items c.into_parts-props.ensures.parts
    c.into_parts-props.ensures.labelled c.edges.ensures.edges c.in_ok-targets.ensures c.deref.ensures.value

pub new-requires : goal.new-requires
new-requires c =
    (merged_from c.args.automaton c.in_ok-targets.targets.items c.deref.result.now c.edges.result.now
    c.into_parts-props.result.1.items c.into_parts-props.result.0.items c.into_parts-props.ensures.parts
    c.into_parts-props.ensures.labelled c.edges.ensures.edges c.in_ok-targets.ensures c.deref.ensures.value
    c.retarget_all.new.rows.items c.retarget_all.ensures).labelled

whole : (c : goal.After-drop-targets) → IsMerged c.args.automaton c.new.result
whole c =
    subst (IsMerged c.args.automaton) (sym c.new.ensures)
    (merged_from c.args.automaton c.in_ok-targets.targets.items c.deref.result.now c.edges.result.now
    c.into_parts-props.result.1.items c.into_parts-props.result.0.items c.into_parts-props.ensures.parts
    c.into_parts-props.ensures.labelled c.edges.ensures.edges c.in_ok-targets.ensures c.deref.ensures.value
    c.retarget_all.new.rows.items c.retarget_all.ensures)

pub returns-clause-same : goal.returns-clause-same
returns-clause-same c = (whole c).same

pub returns-clause-as_many : goal.returns-clause-as_many
returns-clause-as_many c = (whole c).as_many
