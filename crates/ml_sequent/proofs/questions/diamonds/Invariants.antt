use Rattle.std.proofs.Common.{◌≡◌, filter, take}
use Rattle.ml_graph.specs.Graph.{node_at}
use Rattle.ml_sequent.specs.Spread.{is_diamond}
use Rattle.ml_sequent.proofs.questions.diamonds.Given as goal

abbrev pub invariant-loop-node : goal.invariant-loop-node
invariant-loop-node l = l.diamonds.items ≡ filter (λ n. is_diamond (node_at l.graph n)) (take l.node-index l.spread.nodes)
