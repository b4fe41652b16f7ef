use Rattle.ml_path_text.proofs.OneFinding.{one_finding, some_finding}
use Rattle.ml_path_text.proofs.laws.one_finding.Goals as goal

pub returns-clause-some : goal.returns-clause-some
returns-clause-some c = some_finding

pub returns-clause-one : goal.returns-clause-one
returns-clause-one c = one_finding
