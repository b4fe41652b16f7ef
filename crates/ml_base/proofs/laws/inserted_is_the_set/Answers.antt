use Rattle.ml_base.proofs.IdSets.{inserted_is_set}
use Rattle.ml_base.proofs.laws.inserted_is_the_set.Goals as goal

pub returns : goal.returns
returns c = inserted_is_set
