use Rattle.std.proofs.Common.{sym, subst}
use Rattle.ml_labelled.proofs.ReachedParts.{IsReachedPart, fit_from, part_from}
use Rattle.ml_labelled.proofs.reaching.reached_part.Goals as goal

pub retarget_all-requires : goal.retarget_all-requires
retarget_all-requires c =
    fit_from c.args.automaton c.in_ok-marks.marks.items c.deref.result.now c.deref-2.result.now c.in_ok-numbers.numbers.items
    c.deref-3.result.now c.into_parts-props.result.0.items c.into_parts-props.result.1.items c.keep_marked.new.rows.items
    c.into_parts-props.ensures.parts c.into_parts-props.ensures.labelled c.in_ok-marks.ensures c.deref.ensures.value
    c.deref-2.ensures.value c.deref-3.ensures.value c.in_ok-numbers.ensures c.keep_marked.ensures

pub new-requires : goal.new-requires
new-requires c =
    (part_from c.args.automaton c.in_ok-marks.marks.items c.deref.result.now c.deref-2.result.now
    c.in_ok-numbers.numbers.items c.deref-3.result.now c.into_parts-props.result.0.items c.into_parts-props.result.1.items
    c.keep_marked.new.rows.items c.into_parts-props.ensures.parts c.into_parts-props.ensures.labelled c.in_ok-marks.ensures
    c.deref.ensures.value c.deref-2.ensures.value c.deref-3.ensures.value c.in_ok-numbers.ensures c.keep_marked.ensures
    c.retarget_all.new.rows.items c.retarget_all.ensures).labelled

part : (c : goal.After-drop-marks-2) → IsReachedPart c.args.automaton c.new.result
part c =
    subst (IsReachedPart c.args.automaton) (sym c.new.ensures)
    (part_from c.args.automaton c.in_ok-marks.marks.items c.deref.result.now c.deref-2.result.now
    c.in_ok-numbers.numbers.items c.deref-3.result.now c.into_parts-props.result.0.items c.into_parts-props.result.1.items
    c.keep_marked.new.rows.items c.into_parts-props.ensures.parts c.into_parts-props.ensures.labelled c.in_ok-marks.ensures
    c.deref.ensures.value c.deref-2.ensures.value c.deref-3.ensures.value c.in_ok-numbers.ensures c.keep_marked.ensures
    c.retarget_all.new.rows.items c.retarget_all.ensures)

pub returns-clause-labelled : goal.returns-clause-labelled
returns-clause-labelled c = (part c).labelled

pub returns-clause-same : goal.returns-clause-same
returns-clause-same c = (part c).same

pub returns-clause-reached : goal.returns-clause-reached
returns-clause-reached c = (part c).reached

pub returns-clause-few : goal.returns-clause-few
returns-clause-few c = (part c).few
