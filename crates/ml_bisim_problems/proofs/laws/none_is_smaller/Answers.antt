use Rattle.ml_bisim_problems.proofs.Smallest.{none_smaller}
use Rattle.ml_bisim_problems.proofs.laws.none_is_smaller.Goals as goal

pub returns : goal.returns
returns c = record { law = none_smaller }
