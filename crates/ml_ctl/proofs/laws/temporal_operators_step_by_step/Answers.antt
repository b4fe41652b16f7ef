use Rattle.ml_ctl.proofs.StepByStep.{read_step_by_step}
use Rattle.ml_ctl.proofs.laws.temporal_operators_step_by_step.Goals as goal

pub returns : goal.returns
returns c = read_step_by_step
