use Rattle.ml_refute.proofs.OneRefutation.{one_refutation}
use Rattle.ml_refute.proofs.laws.one_refutation.Goals as goal

pub returns : goal.returns
returns c = record { law = one_refutation }
