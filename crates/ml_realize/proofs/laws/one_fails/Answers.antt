use Rattle.ml_realize.proofs.NeverBoth.{one_fails}
use Rattle.ml_realize.proofs.laws.one_fails.Goals as goal

pub returns : goal.returns
returns c = one_fails
