use Rattle.ml_extract.proofs.SomeModel.{some_model}
use Rattle.ml_extract.proofs.laws.some_model.Goals as goal

pub returns : goal.returns
returns c = some_model
