use Rattle.std.proofs.Common.{sym}
use Rattle.ml_graph.proofs.Truths.{label_found, label_unknown}
use Rattle.ml_graph.proofs.at_state.mark_truths.Goals as goal
use Rattle.ml_graph.proofs.at_state.mark_truths.Goals.{in-Some, in_default}

pub loop-label-preserved : goal.loop-label-preserved
loop-label-preserved c =
    let props = c.args.props.now.keys in
    let labels = c.args.labels.now in
    let k = c.loop-label.label-index in
    let x = c.label-item.result in
    elim c.match-get_index_of.branch [
      | in-Some w ↦ label_found props labels c.loop-label.truths c.match-get_index_of.truths k w.in-Some.prop x
          c.requires.distinct c.loop-label.invariant c.loop-label-test.true c.label-item.is
          (sym w.in-Some.ensures.index) w.truths-is
      | in_default w ↦ label_unknown props labels c.loop-label.truths c.match-get_index_of.truths k x
          c.loop-label.invariant c.loop-label-test.true c.label-item.is (sym w.in_default.ensures.index) w.truths-is
    ]
