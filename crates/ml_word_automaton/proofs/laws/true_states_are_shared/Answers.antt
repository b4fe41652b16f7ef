use Rattle.ml_word_automaton.proofs.SharedTop.{true_states_are_shared}
use Rattle.ml_word_automaton.proofs.laws.true_states_are_shared.Goals as goal

pub returns : goal.returns
returns c = true_states_are_shared
