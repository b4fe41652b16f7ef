use Rattle.ml_refute_check.proofs.Accepted as proved
use Rattle.ml_refute_check.proofs.laws.accepted_is_true.Goals as goal

pub returns : goal.returns
returns c = proved.accepted_is_true
