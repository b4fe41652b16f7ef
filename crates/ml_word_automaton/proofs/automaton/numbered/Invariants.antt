use Rattle.ml_word_automaton.specs.private.Numbers.{AreNumberedBelow}
use Rattle.ml_word_automaton.proofs.automaton.numbered.Given as goal

abbrev pub invariant-loop-n : goal.invariant-loop-n
invariant-loop-n l = AreNumberedBelow l.n l.marks l.states.items l.numbers.items
