use Rattle.ml_machine_check.proofs.SomeCheck as checks
use Rattle.ml_machine_check.proofs.laws.some_check.Goals as goal

pub returns : goal.returns
returns c = checks.some_check
