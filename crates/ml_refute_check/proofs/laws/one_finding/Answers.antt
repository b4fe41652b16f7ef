use Rattle.ml_refute_check.proofs.OneFinding.{one_finding}
use Rattle.ml_refute_check.proofs.laws.one_finding.Goals as goal

pub returns : goal.returns
returns c = record { law = one_finding }
