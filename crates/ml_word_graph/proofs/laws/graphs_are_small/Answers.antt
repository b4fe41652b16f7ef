use Rattle.ml_word_graph.proofs.Sizes.{graphs_are_small}
use Rattle.ml_word_graph.proofs.laws.graphs_are_small.Goals as goal

pub returns : goal.returns
returns c = graphs_are_small
