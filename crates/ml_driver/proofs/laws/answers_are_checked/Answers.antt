use Rattle.ml_driver.proofs.AskedAreChecked.{asked_is_checked, right_is_asked}
use Rattle.ml_driver.proofs.laws.answers_are_checked.Goals as goal

pub returns-clause-asked : goal.returns-clause-asked
returns-clause-asked c = asked_is_checked

pub returns-clause-right : goal.returns-clause-right
returns-clause-right c = right_is_asked
