use Rattle.ml_extract.proofs.MetStates.{states_are_met}
use Rattle.ml_extract.proofs.laws.states_are_met.Goals as goal

pub returns : goal.returns
returns c = states_are_met
