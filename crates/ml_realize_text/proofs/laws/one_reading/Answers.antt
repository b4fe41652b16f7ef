use Rattle.ml_realize_text.proofs.OneAnswer.{one_fault, some_reading, text_or_fault}
use Rattle.ml_realize_text.proofs.OneDocument.{one_reading}
use Rattle.ml_realize_text.proofs.laws.one_reading.Goals as goal

pub returns-clause-one : goal.returns-clause-one
returns-clause-one c = one_reading

pub returns-clause-one_fault : goal.returns-clause-one_fault
returns-clause-one_fault c = one_fault

pub returns-clause-some : goal.returns-clause-some
returns-clause-some c = some_reading

pub returns-clause-never_both : goal.returns-clause-never_both
returns-clause-never_both c = text_or_fault
