use Rattle.std.proofs.Common.{map, take, []}
use Rattle.ml_sequent.specs.private.Reach.{unranked, IsVisited, HasRoom}
use Rattle.ml_sequent.proofs.reach.visit_all.Given as goal

abbrev pub invariant-loop-node : goal.invariant-loop-node
invariant-loop-node l = record {
  room : HasRoom l.graph l.levels l.reach;
  visited : IsVisited (map unranked (take l.node-index l.nodes)) [] l.reach.found;
}
