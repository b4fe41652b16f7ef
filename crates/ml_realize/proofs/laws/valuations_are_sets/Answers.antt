use Rattle.ml_realize.proofs.PresentNames.{valuations_are_sets}
use Rattle.ml_realize.proofs.laws.valuations_are_sets.Goals as goal

pub returns : goal.returns
returns c = valuations_are_sets
