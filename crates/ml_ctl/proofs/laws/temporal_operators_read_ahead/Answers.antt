use Rattle.ml_ctl.proofs.StepByStep.{read_ahead}
use Rattle.ml_ctl.proofs.laws.temporal_operators_read_ahead.Goals as goal

pub returns : goal.returns
returns c = read_ahead
