use Rattle.ml_kripke.proofs.OneFault.{fault_or_model, model_or_fault, one_fault, readable_is_model, rules_rise}
use Rattle.ml_kripke.proofs.laws.one_fault.Goals as goal

pub returns-clause-one : goal.returns-clause-one
returns-clause-one c = model_or_fault

pub returns-clause-exclusive : goal.returns-clause-exclusive
returns-clause-exclusive c = fault_or_model

pub returns-clause-fault : goal.returns-clause-fault
returns-clause-fault c = one_fault

pub returns-clause-readable : goal.returns-clause-readable
returns-clause-readable c = readable_is_model

pub returns-clause-lowest : goal.returns-clause-lowest
returns-clause-lowest c = rules_rise
