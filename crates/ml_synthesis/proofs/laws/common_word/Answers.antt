use Rattle.ml_synthesis.proofs.CommonWords.{common_word}
use Rattle.ml_synthesis.proofs.laws.common_word.Goals as goal

pub returns : goal.returns
returns c = common_word
