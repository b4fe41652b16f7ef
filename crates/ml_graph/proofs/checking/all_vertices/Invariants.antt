use Rattle.std.specs.List.{flat_map, range_with_len}
use Rattle.ml_graph.specs.CheckingGame.{pairs_at}
use Rattle.ml_graph.specs.private.Making.{AreLeft, HasVertices, IsFor}
use Rattle.ml_graph.proofs.checking.all_vertices.Given as goal

abbrev pub invariant-loop-state : goal.invariant-loop-state
invariant-loop-state l = record {
  made : HasVertices l.graph l.structure l.made (flat_map (pairs_at l.graph) (range_with_len 0 l.state));
  left : AreLeft l.structure l.state l.edges;
  names : IsFor l.graph l.at;
}
