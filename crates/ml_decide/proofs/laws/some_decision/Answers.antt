use Rattle.ml_decide.proofs.SomeDecision.{some_decision}
use Rattle.ml_decide.proofs.laws.some_decision.Goals as goal

pub returns : goal.returns
returns c = some_decision
