use Rattle.ml_model_check.proofs.ReadBack.{documents_read_back}
use Rattle.ml_model_check.proofs.laws.documents_are_read_back.Goals as goal

pub returns : goal.returns
returns c = documents_read_back
