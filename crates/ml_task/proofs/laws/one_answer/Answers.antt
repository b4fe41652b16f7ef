use Rattle.ml_task.proofs.OneAnswer.{one_fault, one_task, some_answer, task_or_fault}
use Rattle.ml_task.proofs.laws.one_answer.Goals as goal

pub returns-clause-one : goal.returns-clause-one
returns-clause-one c = one_task

pub returns-clause-one_fault : goal.returns-clause-one_fault
returns-clause-one_fault c = one_fault

pub returns-clause-some : goal.returns-clause-some
returns-clause-some c = some_answer

pub returns-clause-never_both : goal.returns-clause-never_both
returns-clause-never_both c = task_or_fault
