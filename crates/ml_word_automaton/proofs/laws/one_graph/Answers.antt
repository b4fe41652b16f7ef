use Rattle.ml_word_automaton.proofs.BlockGraphs as graphs
use Rattle.ml_word_automaton.proofs.laws.one_graph.Goals as goal

pub returns-clause-one : goal.returns-clause-one
returns-clause-one c = graphs.one_graph

pub returns-clause-some : goal.returns-clause-some
returns-clause-some c = graphs.some_graph

pub returns-clause-size : goal.returns-clause-size
returns-clause-size c = graphs.one_size
