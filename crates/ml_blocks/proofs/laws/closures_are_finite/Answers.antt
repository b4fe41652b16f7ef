-- proofs/laws/closures_are_finite
use Rattle.ml_blocks.proofs.FiniteClosures as lemma
use Rattle.ml_blocks.proofs.laws.closures_are_finite.Goals as goal

pub returns : goal.returns
returns c = lemma.closures_are_finite
