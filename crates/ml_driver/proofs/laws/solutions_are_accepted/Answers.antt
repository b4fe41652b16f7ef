use Rattle.ml_driver.proofs.CheckedGameAnswers.{solutions_are_accepted}
use Rattle.ml_driver.proofs.laws.solutions_are_accepted.Goals as goal

pub returns : goal.returns
returns c = solutions_are_accepted
