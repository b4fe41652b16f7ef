-- proofs/laws/one_size
use Rattle.ml_blocks.proofs.ClosureGraphs as lemma
use Rattle.ml_blocks.proofs.laws.one_size.Goals as goal

pub returns : goal.returns
returns c = lemma.one_size
