use Rattle.ml_progress.proofs.WhoWins.{law}
use Rattle.ml_progress.proofs.laws.least_measure_tells.Goals as goal

pub returns : goal.returns
returns c = record { law = law }
