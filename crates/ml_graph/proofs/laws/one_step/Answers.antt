use Rattle.ml_graph.proofs.OneStep.{one_step}
use Rattle.ml_graph.proofs.laws.one_step.Goals as goal

pub returns : goal.returns
returns c = record { law = one_step }
