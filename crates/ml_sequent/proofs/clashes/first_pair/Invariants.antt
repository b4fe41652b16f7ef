use Rattle.std.proofs.Common.{ℕ, ◌≡◌, ◌<◌, get_or, None}
use Rattle.ml_graph.specs.Graph.{node_at}
use Rattle.ml_sequent.specs.private.Tests.{partner}
use Rattle.ml_sequent.proofs.clashes.first_pair.Given as goal

abbrev pub invariant-loop-node : goal.invariant-loop-node
invariant-loop-node l = (k : ℕ) → k < l.node-index → partner l.graph l.nodes (node_at l.graph (get_or l.nodes k 0)) ≡ None
