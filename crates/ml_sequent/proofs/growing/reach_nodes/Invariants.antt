use Rattle.std.proofs.Common.{◌≡◌, take}
use Rattle.ml_sequent.specs.private.Trails.{IsJoined}
use Rattle.ml_sequent.proofs.growing.reach_nodes.Given as goal

abbrev pub invariant-loop-node : goal.invariant-loop-node
invariant-loop-node l = record {
  room : l.trail.room ≡ l.initial.trail.room;
  joined : IsJoined (take l.node-index l.nodes) l.initial.trail.nodes l.trail.nodes;
}
