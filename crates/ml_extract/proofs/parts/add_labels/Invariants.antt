use Rattle.std.proofs.Common.{◌≡◌, ◌++◌, take}
use Rattle.std.specs.List.{flat_map}
use Rattle.ml_graph.specs.Graph.{node_at}
use Rattle.ml_extract.specs.private.Gathered.{labelled, names_of}
use Rattle.ml_extract.proofs.parts.add_labels.Given as goal

abbrev pub invariant-loop-node : goal.invariant-loop-node
invariant-loop-node l =
    l.labels.items ≡ l.initial.labels.items
    ++ labelled l.state (flat_map (λ n. names_of l.graph (node_at l.graph n)) (take l.node-index l.spread.nodes))
