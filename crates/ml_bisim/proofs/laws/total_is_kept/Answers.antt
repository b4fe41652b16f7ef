use Rattle.ml_bisim.proofs.Smallest.{total_kept}
use Rattle.ml_bisim.proofs.laws.total_is_kept.Goals as goal

pub returns : goal.returns
returns c = record { law = total_kept }
