use Rattle.ml_driver.proofs.GameAnswers.{same_winners}
use Rattle.ml_driver.proofs.laws.same_winners.Goals as goal

pub returns : goal.returns
returns c = same_winners
