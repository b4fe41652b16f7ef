use Rattle.ml_sequent.proofs.LocalWalks.{spread_is_least}
use Rattle.ml_sequent.proofs.laws.spread_is_least.Goals as goal

pub returns : goal.returns
returns c = record { law = spread_is_least }
