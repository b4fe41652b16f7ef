use Rattle.ml_refute.proofs.SomeRefutation.{some_refutation}
use Rattle.ml_refute.proofs.laws.some_refutation.Goals as goal

pub returns : goal.returns
returns c = record { law = some_refutation }
