use Rattle.ml_word_graph.proofs.Complement.{complement}
use Rattle.ml_word_graph.proofs.laws.negation_is_complement.Goals as goal

pub returns : goal.returns
returns c = complement
