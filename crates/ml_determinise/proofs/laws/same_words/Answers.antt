use Rattle.ml_determinise.proofs.SameWords.{same_words}
use Rattle.ml_determinise.proofs.laws.same_words.Goals as goal

pub returns : goal.returns
returns c = same_words
