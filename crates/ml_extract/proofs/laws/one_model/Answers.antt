use Rattle.ml_extract.proofs.OneModel.{one_model}
use Rattle.ml_extract.proofs.laws.one_model.Goals as goal

pub returns : goal.returns
returns c = one_model
