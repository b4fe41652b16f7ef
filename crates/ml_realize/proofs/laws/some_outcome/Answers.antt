use Rattle.ml_realize.proofs.RightOutcomes.{found_right}
use Rattle.ml_realize.proofs.SomeOutcomes.{some_outcome}
use Rattle.ml_realize.proofs.laws.some_outcome.Goals as goal

pub returns-clause-some : goal.returns-clause-some
returns-clause-some c = some_outcome

pub returns-clause-right : goal.returns-clause-right
returns-clause-right c = found_right
