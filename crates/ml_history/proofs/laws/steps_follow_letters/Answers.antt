use Rattle.ml_history.proofs.definition.SteppedStates.{steps_follow_letters}
use Rattle.ml_history.proofs.laws.steps_follow_letters.Goals as goal

pub returns : goal.returns
returns c = steps_follow_letters
