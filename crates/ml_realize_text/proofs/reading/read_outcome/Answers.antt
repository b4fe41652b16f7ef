use Rattle.ml_task.specs.Task.{task_of}
use Rattle.ml_realize_text.specs.private.Reads.{answer_of, signals_of}
use Rattle.ml_realize_text.proofs.DocumentRead.{input_words, output_words}
use Rattle.ml_realize_text.proofs.OutcomeRead.{body_read, count_refused, end_refused}
use Rattle.ml_realize_text.proofs.reading.read_outcome.Goals as goal

pub returns-in-Err-clause-refused : goal.returns-in-Err-clause-refused
returns-in-Err-clause-refused c =
    let task = c.args.task.now in
    c.in-Err.ensures.refused
    (signals_of (answer_of c.args.body) (task_of task.inputs.items task.outputs.items task.formula))

pub returns-in-Err-read_body-clause-refused : goal.returns-in-Err-read_body-clause-refused
returns-in-Err-read_body-clause-refused c =
    let task = c.args.task.now in
    let t = task_of task.inputs.items task.outputs.items task.formula in
    let some = c.in-Ok.ensures.some in
    count_refused c.in-Ok.read.0 some.1 (signals_of (answer_of c.args.body) t) c.args.at c.in-Ok.read.1 c.in-Err-read_body.refusal
    some.0 c.in-Ok.ensures.read c.in-Err-read_body.ensures.refused

pub returns-in-Ok-read_end-clause-read : goal.returns-in-Ok-read_end-clause-read
returns-in-Ok-read_end-clause-read c =
    let task = c.args.task.now in
    let t = task_of task.inputs.items task.outputs.items task.formula in
    body_read c.in-Ok.read.0 c.in-Ok.ensures.some.1 t c.args.at c.in-Ok.read.1 c.in-Ok-read_body.read.1 (answer_of c.args.body)
    c.in-Ok-read_body.read.0 c.in-Ok.ensures.read c.in-Ok-read_body.ensures.read c.in-Ok-read_end.ensures.read

pub returns-in-Err-read_end-clause-refused : goal.returns-in-Err-read_end-clause-refused
returns-in-Err-read_end-clause-refused c =
    let task = c.args.task.now in
    let t = task_of task.inputs.items task.outputs.items task.formula in
    let n = c.in-Ok.read.0 in
    let some = c.in-Ok.ensures.some in
    let outcome = c.in-Ok-read_body.read.0 in
    let a = answer_of c.args.body in
    count_refused n some.1 (signals_of a t) c.args.at c.in-Ok.read.1 c.in-Err-read_end.refusal some.0 c.in-Ok.ensures.read
    (end_refused n some.1 t (input_words t task.is_task) (output_words t task.is_task) c.in-Ok.read.1 c.in-Ok-read_body.read.1 a
    outcome c.in-Err-read_end.refusal c.in-Ok-read_body.ensures.read c.in-Err-read_end.ensures.refused)
