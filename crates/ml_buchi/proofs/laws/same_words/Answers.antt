use Rattle.ml_buchi.proofs.SameWords.{same_words}
use Rattle.ml_buchi.proofs.laws.same_words.Goals as goal

pub returns : goal.returns
returns c = same_words
