use Rattle.ml_driver.proofs.OneDue.{one_due, one_measure, one_unless_open}
use Rattle.ml_driver.proofs.FitNumbers.{command_fits}
use Rattle.ml_driver.proofs.SomeDue.{some_due}
use Rattle.ml_driver.specs.Words.{command_of}
use Rattle.ml_driver.proofs.laws.one_due.Goals as goal

pub returns-clause-some : goal.returns-clause-some
returns-clause-some c = some_due

pub returns-clause-one : goal.returns-clause-one
returns-clause-one c = one_due

pub returns-clause-agree : goal.returns-clause-agree
returns-clause-agree c = one_unless_open

pub returns-clause-output : goal.returns-clause-output
returns-clause-output c = one_measure

pub returns-clause-words : goal.returns-clause-words
returns-clause-words c = λ words text. some_due (command_of words) text (command_fits words)
