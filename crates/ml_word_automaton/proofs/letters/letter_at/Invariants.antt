-- The transitions of the states so far.
use Rattle.std.proofs.Common.{ℕ, ◌≡◌, ◌<◌, [], Some, length}
use Rattle.ml_graph.specs.Graph.{size}
use Rattle.ml_word_automaton.specs.private.Walking.{AreThoseBelow, last, moves, onward}
use Rattle.ml_word_automaton.proofs.letters.letter_at.Given as goal

abbrev pub invariant-loop-state : goal.invariant-loop-state
invariant-loop-state l = record {
  as_long : length l.seen.items ≡ size l.reading.graph.now;
  new : (n q : ℕ) → last l.seen.items n ≡ Some q → q < l.state;
  waiting : l.waiting.items ≡ [];
  those : AreThoseBelow l.state (onward l.reading.graph.now l.reading.present.now)
      (moves l.reading.graph.now l.reading.numbers.now) l.states l.transitions.items;
}
