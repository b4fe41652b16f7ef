use Rattle.ml_word_graph.proofs.Agreement.{graphs_agree}
use Rattle.ml_word_graph.proofs.laws.agrees.Goals as goal

pub returns : goal.returns
returns c = graphs_agree
