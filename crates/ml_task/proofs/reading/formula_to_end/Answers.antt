use Rattle.std.proofs.Common.{sym, subst}
use Rattle.ml_task.specs.TaskText.{task_lines}
use Rattle.ml_task.specs.private.Stages.{TellsFault}
use Rattle.ml_task.proofs.ReadTasks.{end_told, formula_told}
use Rattle.ml_task.proofs.reading.formula_to_end.Goals as goal

pub returns-in-Err-clause-refused : goal.returns-in-Err-clause-refused
returns-in-Err-clause-refused c = λ text inputs outputs so_far are.
    subst (TellsFault text) (sym c.at_line.ensures)
    (formula_told text inputs outputs c.args.seen.now.keys (task_lines c.args.text.now) so_far are c.in-Err.refusal
    c.in-Err.ensures.refused)

pub returns-in-Some-clause-refused : goal.returns-in-Some-clause-refused
returns-in-Some-clause-refused c = λ text inputs outputs so_far are.
    subst (TellsFault text) (sym c.at_line-in-Some.ensures)
    (end_told text inputs outputs c.args.seen.now.keys (task_lines c.args.text.now) so_far are c.in-Ok.read.0
    (task_lines c.in-Ok.read.1.now) c.in-Ok.ensures.read c.in-Some.field-0.0.now (task_lines c.in-Some.field-0.1.now)
    c.in-Some.ensures)
