use Rattle.ml_answers.proofs.OneFinding.{one_finding}
use Rattle.ml_answers.proofs.SomeFinding.{some_finding}
use Rattle.ml_answers.proofs.laws.one_finding.Goals as goal

pub returns-clause-some : goal.returns-clause-some
returns-clause-some c = some_finding

pub returns-clause-once : goal.returns-clause-once
returns-clause-once c = one_finding
