use Rattle.ml_answers.proofs.OneReading.{one_fault, read_no_fault, some_reading}
use Rattle.ml_answers.proofs.laws.one_reading.Goals as goal

pub returns-clause-some : goal.returns-clause-some
returns-clause-some c = some_reading

pub returns-clause-apart : goal.returns-clause-apart
returns-clause-apart c = read_no_fault

pub returns-clause-once : goal.returns-clause-once
returns-clause-once c = one_fault
