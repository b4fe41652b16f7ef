use Rattle.ml_bisim_problems.proofs.Carried.{problems_carried}
use Rattle.ml_bisim_problems.proofs.laws.problems_are_carried.Goals as goal

pub returns : goal.returns
returns c = record { law = problems_carried }
