use Rattle.ml_driver.proofs.QuotientAnswers.{one_quotient_due, quotients_are_checked_alike, quotients_are_read, written_holds_the_same}
use Rattle.ml_driver.proofs.laws.quotients_say_the_same.Goals as goal

pub returns-clause-due : goal.returns-clause-due
returns-clause-due c = one_quotient_due

pub returns-clause-read : goal.returns-clause-read
returns-clause-read c = quotients_are_read

pub returns-clause-same : goal.returns-clause-same
returns-clause-same c = written_holds_the_same

pub returns-clause-checked : goal.returns-clause-checked
returns-clause-checked c = quotients_are_checked_alike
