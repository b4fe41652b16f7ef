use Rattle.ml_bisim_problems.proofs.Carried.{admitted_kept}
use Rattle.ml_bisim_problems.proofs.laws.admitted_is_kept.Goals as goal

pub returns : goal.returns
returns c = record { law = admitted_kept }
