use Rattle.ml_front.proofs.HeadLines.{one_head}
use Rattle.ml_front.proofs.OneFault.{head_or_fault, head_rules_rise, one_fault, some_head}
use Rattle.ml_front.proofs.laws.one_head.Goals as goal

pub returns-clause-one : goal.returns-clause-one
returns-clause-one c = some_head

pub returns-clause-exclusive : goal.returns-clause-exclusive
returns-clause-exclusive c = head_or_fault

pub returns-clause-head : goal.returns-clause-head
returns-clause-head c = one_head

pub returns-clause-fault : goal.returns-clause-fault
returns-clause-fault c = one_fault

pub returns-clause-lowest : goal.returns-clause-lowest
returns-clause-lowest c = head_rules_rise
