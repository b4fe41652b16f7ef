use Rattle.ml_spec.proofs.ExactlyOne.{paths_have_one, states_have_one}
use Rattle.ml_spec.proofs.laws.enumerations_have_one_value.Goals as goal

pub returns : goal.returns
returns c = record { paths = paths_have_one; states = states_have_one }
