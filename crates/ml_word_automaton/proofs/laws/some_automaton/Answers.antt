use Rattle.ml_word_automaton.proofs.Listed as listed
use Rattle.ml_word_automaton.proofs.laws.some_automaton.Goals as goal

pub returns : goal.returns
returns c = listed.some_automaton
