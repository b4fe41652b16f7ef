-- proofs/laws/graphs_agree
use Rattle.ml_blocks.proofs.Agreement as lemma
use Rattle.ml_blocks.proofs.laws.graphs_agree.Goals as goal

pub returns-clause-states : goal.returns-clause-states
returns-clause-states c = lemma.graphs_agree

pub returns-clause-paths : goal.returns-clause-paths
returns-clause-paths c = lemma.linear_graphs_agree

pub returns-clause-states_exactly : goal.returns-clause-states_exactly
returns-clause-states_exactly c = lemma.graphs_hold

pub returns-clause-paths_exactly : goal.returns-clause-paths_exactly
returns-clause-paths_exactly c = lemma.linear_graphs_hold
