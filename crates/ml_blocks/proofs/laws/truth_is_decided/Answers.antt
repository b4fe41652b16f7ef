-- proofs/laws/truth_is_decided
use Rattle.ml_blocks.proofs.DecidedTruth as lemma
use Rattle.ml_blocks.proofs.laws.truth_is_decided.Goals as goal

pub returns : goal.returns
returns c = lemma.truth_is_decided
