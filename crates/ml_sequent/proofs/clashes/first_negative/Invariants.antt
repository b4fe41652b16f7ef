use Rattle.std.proofs.Common.{◌≡◌, drop, find, is_some}
use Rattle.ml_graph.specs.Graph.{node_at}
use Rattle.ml_sequent.specs.private.Tests.{negative_prop}
use Rattle.ml_sequent.proofs.clashes.first_negative.Given as goal

abbrev pub invariant-loop-node : goal.invariant-loop-node
invariant-loop-node l =
    find (λ n. is_some (negative_prop (node_at l.graph n))) l.nodes
    ≡ find (λ n. is_some (negative_prop (node_at l.graph n))) (drop l.node-index l.nodes)
