use Rattle.std.proofs.Common.{◌<◌, All}
use Rattle.ml_graph.specs.Graph.{size}
use Rattle.ml_sequent.proofs.descent.odd_nodes.Given as goal

abbrev pub invariant-loop-node : goal.invariant-loop-node
invariant-loop-node l = All (λ n. n < size l.graph) l.nodes.items
