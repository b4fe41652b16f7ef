use Rattle.ml_written.proofs.UnboundedTexts.{means_the_same}
use Rattle.ml_written.proofs.laws.texts_mean_the_same.Goals as goal

pub returns : goal.returns
returns c = means_the_same
