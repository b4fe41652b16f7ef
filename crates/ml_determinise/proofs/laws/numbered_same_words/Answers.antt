use Rattle.ml_determinise.proofs.NumberedWords.{numbered_same_words}
use Rattle.ml_determinise.proofs.laws.numbered_same_words.Goals as goal

pub returns : goal.returns
returns c = numbered_same_words
