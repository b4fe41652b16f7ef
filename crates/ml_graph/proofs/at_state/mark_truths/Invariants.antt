use Rattle.std.proofs.Common.{take}
use Rattle.ml_graph.specs.private.Making.{HasTruths}
use Rattle.ml_graph.proofs.at_state.mark_truths.Given as goal

abbrev pub invariant-loop-label : goal.invariant-loop-label
invariant-loop-label l = HasTruths l.props.keys (take l.label-index l.labels) l.truths
