use Rattle.ml_refute_check.proofs.Accepted as proved
use Rattle.ml_refute_check.proofs.laws.documents_are_read_back.Goals as goal

pub returns : goal.returns
returns c = proved.documents_read_back
