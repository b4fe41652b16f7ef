-- proofs/laws/edges_go_on
use Rattle.ml_blocks.proofs.EdgesGoOn as lemma
use Rattle.ml_blocks.proofs.laws.edges_go_on.Goals as goal

pub returns : goal.returns
returns c = lemma.edges_go_on
