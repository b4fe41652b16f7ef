use Rattle.std.proofs.Common.{◌≡◌, drop, find}
use Rattle.ml_graph.specs.Graph.{node_at}
use Rattle.ml_sequent.specs.private.Tests.{is_false}
use Rattle.ml_sequent.proofs.clashes.first_false.Given as goal

abbrev pub invariant-loop-node : goal.invariant-loop-node
invariant-loop-node l =
    find (λ n. is_false (node_at l.graph n)) l.nodes ≡ find (λ n. is_false (node_at l.graph n)) (drop l.node-index l.nodes)
