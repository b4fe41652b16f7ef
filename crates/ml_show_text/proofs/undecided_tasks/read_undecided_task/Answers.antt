use Rattle.ml_show_text.proofs.HeadLines.{behind_head, body_refused, document_read}
use Rattle.ml_show_text.proofs.undecided_tasks.read_undecided_task.Goals as goal

pub returns-in-Err-read_task-clause-refused : goal.returns-in-Err-read_task-clause-refused
returns-in-Err-read_task-clause-refused c =
    behind_head c.args.text.now c.in-Ok.lines.now c.in-Ok.ensures.read c.in-Err-read_task.refusal
    c.in-Err-read_task.ensures.refused

pub returns-in-Ok-read_undecided-clause-read : goal.returns-in-Ok-read_undecided-clause-read
returns-in-Ok-read_undecided-clause-read c =
    document_read c.args.text.now c.in-Ok.lines.now c.in-Ok.ensures.read c.in-Ok-read_task.read.1.now
    c.in-Ok-read_task.ensures.read c.in-Ok-read_undecided.ensures.read

pub returns-in-Err-read_undecided-clause-refused : goal.returns-in-Err-read_undecided-clause-refused
returns-in-Err-read_undecided-clause-refused c =
    body_refused c.args.text.now c.in-Ok.lines.now c.in-Ok.ensures.read c.in-Ok-read_task.read.1.now
    c.in-Ok-read_task.ensures.read c.in-Err-read_undecided.fault c.in-Err-read_undecided.ensures.refused
