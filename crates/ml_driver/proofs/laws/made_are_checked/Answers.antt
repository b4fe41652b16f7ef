use Rattle.ml_driver.proofs.CheckedOutcomes.{make_is_checked, realize_is_checked}
use Rattle.ml_driver.proofs.laws.made_are_checked.Goals as goal

pub returns-clause-realized : goal.returns-clause-realized
returns-clause-realized c = realize_is_checked

pub returns-clause-made : goal.returns-clause-made
returns-clause-made c = make_is_checked
