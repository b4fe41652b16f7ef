use Rattle.std.proofs.Common.{sym, subst}
use Rattle.ml_lines.specs.Reading.{AreWords}
use Rattle.ml_task.specs.Task.{task_of}
use Rattle.ml_realize_text.proofs.DocumentRead.{input_words, output_words}
use Rattle.ml_realize_text.proofs.reading.read_body.Goals as goal

pub read_machine-requires-clause-inputs : goal.read_machine-requires-clause-inputs
read_machine-requires-clause-inputs c =
    let task = c.args.task.now in
    subst AreWords (sym c.deref.ensures.value) (input_words (task_of task.inputs.items task.outputs.items task.formula) task.is_task)

pub read_machine-requires-clause-outputs : goal.read_machine-requires-clause-outputs
read_machine-requires-clause-outputs c =
    let task = c.args.task.now in
    subst AreWords (sym c.deref-in-AMachine.ensures.value)
    (output_words (task_of task.inputs.items task.outputs.items task.formula) task.is_task)

pub read_environment-requires-clause-inputs : goal.read_environment-requires-clause-inputs
read_environment-requires-clause-inputs c =
    let task = c.args.task.now in
    subst AreWords (sym c.deref-in-AnEnvironment.ensures.value)
    (input_words (task_of task.inputs.items task.outputs.items task.formula) task.is_task)

pub read_environment-requires-clause-outputs : goal.read_environment-requires-clause-outputs
read_environment-requires-clause-outputs c =
    let task = c.args.task.now in
    subst AreWords (sym c.deref-in-AnEnvironment-2.ensures.value)
    (output_words (task_of task.inputs.items task.outputs.items task.formula) task.is_task)
