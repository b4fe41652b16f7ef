use Rattle.ml_word_graph.proofs.Satisfiable.{as_satisfiable}
use Rattle.ml_word_graph.proofs.laws.satisfiable_alike.Goals as goal

pub returns : goal.returns
returns c = as_satisfiable
