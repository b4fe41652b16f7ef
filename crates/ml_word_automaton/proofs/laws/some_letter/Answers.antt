use Rattle.ml_word_automaton.proofs.RowsAccept.{some_letter}
use Rattle.ml_word_automaton.proofs.laws.some_letter.Goals as goal

pub returns : goal.returns
returns c = some_letter
