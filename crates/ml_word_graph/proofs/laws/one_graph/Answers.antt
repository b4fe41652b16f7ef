use Rattle.ml_word_graph.proofs.ClosureGraphs as lemma
use Rattle.ml_word_graph.proofs.laws.one_graph.Goals as goal

pub returns-clause-one : goal.returns-clause-one
returns-clause-one c = lemma.one_graph

pub returns-clause-some : goal.returns-clause-some
returns-clause-some c = lemma.some_graph
