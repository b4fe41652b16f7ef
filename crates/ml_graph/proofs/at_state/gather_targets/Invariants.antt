use Rattle.std.proofs.Common.{take}
use Rattle.ml_graph.specs.private.Making.{HasTargets}
use Rattle.ml_graph.proofs.at_state.gather_targets.Given as goal

abbrev pub invariant-loop-edge : goal.invariant-loop-edge
invariant-loop-edge l = HasTargets l.actions.keys (take l.edge-index l.edges) l.rows
