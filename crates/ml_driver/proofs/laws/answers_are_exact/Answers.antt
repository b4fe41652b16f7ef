use Rattle.ml_driver.proofs.OneDue.{answers_are_exact}
use Rattle.ml_driver.proofs.laws.answers_are_exact.Goals as goal

pub returns : goal.returns
returns c = answers_are_exact
