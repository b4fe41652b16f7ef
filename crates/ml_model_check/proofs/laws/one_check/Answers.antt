use Rattle.ml_model_check.proofs.OneCheck.{one_check, some_check}
use Rattle.ml_model_check.proofs.laws.one_check.Goals as goal

pub returns-clause-some : goal.returns-clause-some
returns-clause-some c = some_check

pub returns-clause-once : goal.returns-clause-once
returns-clause-once c = one_check
