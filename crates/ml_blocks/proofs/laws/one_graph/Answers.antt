-- proofs/laws/one_graph
use Rattle.ml_blocks.proofs.ClosureGraphs as lemma
use Rattle.ml_blocks.proofs.laws.one_graph.Goals as goal

pub returns : goal.returns
returns c = lemma.one_graph
