use Rattle.ml_driver.proofs.ReadBack.{decide_is_checked, decided_are_checked, find_is_checked, prove_is_checked, refuted_are_accepted, valid_is_checked}
use Rattle.ml_driver.proofs.laws.decided_are_checked.Goals as goal

pub returns-clause-satisfied : goal.returns-clause-satisfied
returns-clause-satisfied c = decided_are_checked

pub returns-clause-refuted : goal.returns-clause-refuted
returns-clause-refuted c = refuted_are_accepted

pub returns-clause-decided : goal.returns-clause-decided
returns-clause-decided c = decide_is_checked

pub returns-clause-valid : goal.returns-clause-valid
returns-clause-valid c = valid_is_checked

pub returns-clause-found : goal.returns-clause-found
returns-clause-found c = find_is_checked

pub returns-clause-proved : goal.returns-clause-proved
returns-clause-proved c = prove_is_checked
