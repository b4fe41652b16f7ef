use Rattle.ml_word_automaton.proofs.RowsAccept.{rows_accept}
use Rattle.ml_word_automaton.proofs.laws.rows_accept.Goals as goal

pub returns : goal.returns
returns c = rows_accept
