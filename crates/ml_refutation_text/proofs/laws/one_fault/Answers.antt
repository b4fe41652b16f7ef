use Rattle.ml_refutation_text.proofs.RefutationTexts as proved
use Rattle.ml_refutation_text.proofs.RisingRules.{rules_rise}
use Rattle.ml_refutation_text.proofs.laws.one_fault.Goals as goal

pub returns-clause-one : goal.returns-clause-one
returns-clause-one c = proved.readable_or_fault

pub returns-clause-exclusive : goal.returns-clause-exclusive
returns-clause-exclusive c = proved.fault_or_readable

pub returns-clause-fault : goal.returns-clause-fault
returns-clause-fault c = proved.one_fault

pub returns-clause-readable : goal.returns-clause-readable
returns-clause-readable c = proved.readable_is_refutation

pub returns-clause-lowest : goal.returns-clause-lowest
returns-clause-lowest c = rules_rise
