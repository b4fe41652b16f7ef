use Rattle.std.proofs.Common.{◌≡◌, length}
use Rattle.ml_graph.specs.Graph.{size}
use Rattle.ml_word_automaton.specs.private.Numbers.{AreMarkedBelow}
use Rattle.ml_word_automaton.proofs.automaton.state_marks.Given as goal

abbrev pub invariant-loop-n : goal.invariant-loop-n
invariant-loop-n l = record {
  as_long : length l.marks.items ≡ size l.graph;
  marked : AreMarkedBelow l.n l.graph l.marks.items;
}
