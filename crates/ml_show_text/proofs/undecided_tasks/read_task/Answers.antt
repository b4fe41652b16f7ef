use Rattle.std.proofs.Common.{◌+◌, Fits, w64, Err, sym, ap, subst, arith}
use Rattle.ml_base.specs.declared.doc_fault.DocFault.{DocFault}
use Rattle.ml_base.specs.declared.doc_refusal.DocRefusal.TheVariants as refused
use Rattle.ml_task.specs.Task.{task_of}
use Rattle.ml_show_text.specs.private.TaskLines.{TellsTaskFault}
use Rattle.ml_show_text.proofs.TaskRead.{few_lines, task_read, task_refused}
use Rattle.ml_show_text.proofs.undecided_tasks.read_task.Goals as goal

pub overflow_add-result : goal.overflow_add-result
overflow_add-result c =
    let told = c.in-Err-Fault in
    let found = told.ensures.refused told.fault (ap Err told.field-0-is) in
    let few =
    few_lines c.args.text.now c.behind_task-rest.result.now c.text_before.result.now c.behind_task-rest.ensures
    c.text_before.ensures told.fault found in
    subst (λ (f : DocFault). Fits w64 (2 + f.line)) (sym told.fault-is) (omega (arith, few))

pub returns-in-Ok-clause-read : goal.returns-in-Ok-clause-read
returns-in-Ok-clause-read c =
    let task = c.in-Ok.task in
    task_read c.args.text.now c.behind_task-rest.result.now c.text_before.result.now c.behind_task-rest.ensures
    c.text_before.ensures (task_of task.inputs.items task.outputs.items task.formula) c.in-Ok.ensures.text

pub returns-in-Err-Fault-clause-refused : goal.returns-in-Err-Fault-clause-refused
returns-in-Err-Fault-clause-refused c =
    let told = c.in-Err-Fault in
    let text = c.args.text.now in
    let found = told.ensures.refused told.fault (ap Err told.field-0-is) in
    subst (λ (f : DocFault). TellsTaskFault text (refused.Fault (record { line = 2 + f.line; rule = f.rule }))) (sym told.fault-is)
    (task_refused text c.behind_task-rest.result.now c.text_before.result.now c.behind_task-rest.ensures c.text_before.ensures
    told.fault found)
