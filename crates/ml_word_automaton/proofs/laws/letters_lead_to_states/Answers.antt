use Rattle.ml_word_automaton.proofs.RowsAccept.{lead_to_states}
use Rattle.ml_word_automaton.proofs.laws.letters_lead_to_states.Goals as goal

pub returns : goal.returns
returns c = lead_to_states
