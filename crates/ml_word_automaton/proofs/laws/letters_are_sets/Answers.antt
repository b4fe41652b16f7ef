use Rattle.ml_word_automaton.proofs.SameLetters.{letters_are_sets}
use Rattle.ml_word_automaton.proofs.laws.letters_are_sets.Goals as goal

pub returns : goal.returns
returns c = letters_are_sets
