use Rattle.ml_trace.proofs.Priorities.{priorities_agree}
use Rattle.ml_trace.proofs.laws.priorities_agree.Goals as goal

pub returns : goal.returns
returns c = priorities_agree
