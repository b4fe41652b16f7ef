use Rattle.ml_task.specs.Task.{task_of}
use Rattle.ml_realize_text.proofs.DocumentRead.{behind_head, behind_lines}
use Rattle.ml_realize_text.proofs.reading.read_lines.Goals as goal

pub returns-in-Err-read_task-clause-refused : goal.returns-in-Err-read_task-clause-refused
returns-in-Err-read_task-clause-refused c =
    behind_head c.args.at c.in-Ok.read.1 c.in-Ok.read.0 c.in-Ok.ensures.read c.in-Err-read_task.refusal
    c.in-Err-read_task.ensures.refused

pub returns-in-Err-read_outcome-clause-refused : goal.returns-in-Err-read_outcome-clause-refused
returns-in-Err-read_outcome-clause-refused c =
    let task = c.in-Ok-read_task.read.0 in
    behind_lines c.args.at c.in-Ok.read.1 c.in-Ok.read.0 c.in-Ok.ensures.read
    (task_of task.inputs.items task.outputs.items task.formula) c.in-Ok-read_task.read.1 c.in-Ok-read_task.ensures.read
    c.in-Err-read_outcome.refusal c.in-Err-read_outcome.ensures.refused
