use Rattle.std.proofs.Common.{sym, ap, subst, ◌∙◌, ◌<◌, length, arith}
use Rattle.std.proofs.lemmas.List.{get_or-map, length-map}
use Rattle.ml_refutation.specs.Views.{decision_of}
use Rattle.ml_refute.specs.private.PutTogether.{HasMarksOf}
use Rattle.ml_refute.proofs.go_heights.arcs_of.Goals as goal

pub push_arcs-requires-clause-marks : goal.push_arcs-requires-clause-marks
push_arcs-requires-clause-marks c =
    let d = c.index-decisions-entry.result in
    let low : c.loop-entry.entry < length c.args.decisions.now = omega (arith, c.loop-entry-test.true) in
    subst (HasMarksOf c.args.names)
    (get_or-map decision_of c.args.decisions.now c.loop-entry.entry d (decision_of d) low
    ∙ ap decision_of (sym c.index-decisions-entry.is))
    (c.requires.marks c.loop-entry.entry (decision_of d) (omega (arith, low, length-map c.args.decisions.now decision_of)))
