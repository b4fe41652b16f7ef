use Rattle.ml_buchi.proofs.Conditions.{condition_is_parity}
use Rattle.ml_buchi.proofs.laws.condition_is_parity.Goals as goal

pub returns : goal.returns
returns c = condition_is_parity
