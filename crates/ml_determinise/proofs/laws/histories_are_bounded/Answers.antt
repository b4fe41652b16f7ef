use Rattle.ml_determinise.proofs.BoundedHistories.{histories_are_bounded}
use Rattle.ml_determinise.proofs.laws.histories_are_bounded.Goals as goal

pub returns : goal.returns
returns c = histories_are_bounded
