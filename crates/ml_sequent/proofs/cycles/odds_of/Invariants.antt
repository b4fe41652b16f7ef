use Rattle.std.proofs.Common.{◌≡◌, ◌==◌, ◌%◌, filter, map, take}
use Rattle.ml_graph.specs.Graph.{priority_at}
use Rattle.ml_sequent.proofs.cycles.odds_of.Given as goal

abbrev pub invariant-loop-node : goal.invariant-loop-node
invariant-loop-node l = l.odds.items ≡ filter (λ d. d % 2 == 1) (map (priority_at l.graph) (take l.node-index l.nodes))
