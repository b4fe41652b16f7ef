use Rattle.ml_driver.proofs.CheckedGameAnswers.{one_check_due}
use Rattle.ml_driver.proofs.laws.one_check_of_a_game.Goals as goal

pub returns : goal.returns
returns c = one_check_due
