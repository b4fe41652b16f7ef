use Rattle.ml_driver.proofs.AutomatonAnswers.{one_determinised, one_written, written_words}
use Rattle.ml_driver.proofs.laws.one_automaton.Goals as goal

pub returns-clause-due : goal.returns-clause-due
returns-clause-due c = one_determinised

pub returns-clause-written : goal.returns-clause-written
returns-clause-written c = one_written

pub returns-clause-same_words : goal.returns-clause-same_words
returns-clause-same_words c = written_words
