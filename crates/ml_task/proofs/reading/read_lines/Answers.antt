use Rattle.std.proofs.Common.{[], refl}
use Rattle.ml_task.specs.TaskText.{task_lines}
use Rattle.ml_task.proofs.ReadTasks.{task_read}
use Rattle.ml_task.proofs.reading.read_lines.Goals as goal

pub invariant_of-result : goal.invariant_of-result
invariant_of-result c =
    let read =
    task_read c.args.text.now c.in_ok-inputs.inputs.items c.in_ok-inputs.outputs.items c.names_lines.new.seen.keys
    (task_lines c.in_ok-inputs.rest.now) c.in_ok-inputs.ensures.read c.in_ok-inputs.ensures.seen c.in_ok-formula.formula
    [] c.in_ok-formula.ensures.read refl in
    record { is_task = read.is_task }
