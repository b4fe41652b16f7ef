use Rattle.std.proofs.Common.{Err, ap, refl, sym, subst}
use Rattle.ml_task.specs.Task.{task_of}
use Rattle.ml_driver.proofs.TaskAnswers.{told_of}
use Rattle.ml_driver.specs.Tasks.{IsTaskTold}
use Rattle.ml_driver.proofs.realizing.answer.Goals as goal

pub left_open-requires : goal.left_open-requires
left_open-requires c = (refl, c.in-Err-Passed.ensures.passed (ap Err c.in-Err-Passed.field-0-is))

pub returns-in_ok-write-in-Ok-clause-answer : goal.returns-in_ok-write-in-Ok-clause-answer
returns-in_ok-write-in-Ok-clause-answer c =
    let t = task_of c.args.task.now.inputs.items c.args.task.now.outputs.items c.args.task.now.formula in
    let out = c.in_ok-write-in-Ok.field-0.items in
    subst (λ s. IsTaskTold c.args.way t c.args.limit s out) (sym c.status_of.ensures.status)
    (told_of c.args.way t c.args.limit c.in-Ok.outcome out c.in-Ok.ensures.right c.in-Ok.ensures.found c.in_ok-write-in-Ok.ensures)
