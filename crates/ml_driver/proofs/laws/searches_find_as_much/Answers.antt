use Rattle.ml_driver.proofs.TaskAnswers.{makes_as_realized}
use Rattle.ml_driver.proofs.Searched.{finds_as_decided, proves_as_decided}
use Rattle.ml_driver.proofs.laws.searches_find_as_much.Goals as goal

pub returns-clause-finds : goal.returns-clause-finds
returns-clause-finds c = finds_as_decided

pub returns-clause-proves : goal.returns-clause-proves
returns-clause-proves c = proves_as_decided

pub returns-clause-makes : goal.returns-clause-makes
returns-clause-makes c = makes_as_realized
