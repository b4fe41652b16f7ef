use Rattle.std.proofs.Common.{List, ◌++◌, map}
use Rattle.std.specs.List.{range_with_len}
use Rattle.ml_graph.specs.CheckingGame.{Vertex, Pair}
use Rattle.ml_graph.specs.private.Making.{HasVertices}
use Rattle.ml_graph.proofs.checking.Vertices.push_pairs.Given as goal

abbrev pub invariant-loop-n : goal.invariant-loop-n
invariant-loop-n l =
    (vs : List Vertex) → HasVertices l.graph l.structure l.initial.self vs
    → HasVertices l.graph l.structure l.self (vs ++ map (Pair l.state) (range_with_len 0 l.n))
