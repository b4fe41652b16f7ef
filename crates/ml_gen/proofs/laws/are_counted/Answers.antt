use Rattle.ml_gen.proofs.Occurrences.{are_counted}
use Rattle.ml_gen.proofs.laws.are_counted.Goals as goal

pub returns : goal.returns
returns c = are_counted
