use Rattle.ml_extract.proofs.Loops.{models_hold}
use Rattle.ml_extract.proofs.laws.models_hold.Goals as goal

pub returns : goal.returns
returns c = models_hold
