use Rattle.std.proofs.Common.{◌≡◌, ◌<◌, ℕ, length, get_or}
use Rattle.ml_graph.specs.Graph.{size}
use Rattle.ml_translate.proofs.edges.state_numbers.Given as goal

abbrev pub invariant-loop-state : goal.invariant-loop-state
invariant-loop-state l = record {
  as_long : length l.numbers.items ≡ size l.automaton.graph;
  are : (p : ℕ) → p < l.state → get_or l.numbers.items (get_or l.states p 0) 0 ≡ p;
}
