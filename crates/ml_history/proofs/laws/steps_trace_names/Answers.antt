use Rattle.ml_history.proofs.definition.StepNames.{step_names}
use Rattle.ml_history.proofs.laws.steps_trace_names.Goals as goal

pub returns : goal.returns
returns c = step_names
