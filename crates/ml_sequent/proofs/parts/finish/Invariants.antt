use Rattle.std.proofs.Common.{◌≡◌, take, length}
use Rattle.ml_sequent.specs.private.ConnectedParts.{all_done}
use Rattle.ml_sequent.proofs.parts.finish.Given as goal

abbrev pub invariant-loop-node : goal.invariant-loop-node
invariant-loop-node l = record {
  sized : length l.stages.items ≡ length l.initial.stages.items;
  done : l.stages.items ≡ all_done (take l.node-index l.nodes) l.initial.stages.items;
}
