use Rattle.ml_bisim.proofs.Smallest.{reduced}
use Rattle.ml_bisim.proofs.laws.reduced.Goals as goal

pub returns : goal.returns
returns c = record { law = reduced }
