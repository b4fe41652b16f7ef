-- proofs/laws/some_graph
use Rattle.ml_blocks.proofs.ClosureGraphs as lemma
use Rattle.ml_blocks.proofs.laws.some_graph.Goals as goal

pub returns : goal.returns
returns c = lemma.some_graph
