use Rattle.std.proofs.Common.{◌≡◌}
use Rattle.ml_sequent.specs.private.Reach.{marked_nodes}
use Rattle.ml_sequent.proofs.reach.marked_nodes.Given as goal

abbrev pub invariant-loop-node : goal.invariant-loop-node
invariant-loop-node l = l.nodes.items ≡ marked_nodes l.width l.marks l.node
