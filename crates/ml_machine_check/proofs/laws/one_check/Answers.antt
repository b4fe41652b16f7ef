use Rattle.ml_machine_check.proofs.OneCheck as checks
use Rattle.ml_machine_check.proofs.laws.one_check.Goals as goal

pub returns-clause-one : goal.returns-clause-one
returns-clause-one c = checks.one_check

pub returns-clause-not_right : goal.returns-clause-not_right
returns-clause-not_right c = checks.not_right
