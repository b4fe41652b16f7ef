use Rattle.ml_history.proofs.definition.StepKeeps.{start-is, step_is_history}
use Rattle.ml_history.proofs.laws.steps_are_histories.Goals as goal

pub returns : goal.returns
returns c = (start-is, step_is_history)
