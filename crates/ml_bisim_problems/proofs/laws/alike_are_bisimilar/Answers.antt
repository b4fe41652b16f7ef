use Rattle.ml_bisim_problems.proofs.Alike.{alike_are_bisimilar}
use Rattle.ml_bisim_problems.proofs.laws.alike_are_bisimilar.Goals as goal

pub returns : goal.returns
returns c = record { law = alike_are_bisimilar }
