use Rattle.ml_show_text.proofs.CutTasks.{IsBehind}
use Rattle.ml_show_text.proofs.undecided_tasks.behind_task.Given as goal

abbrev pub invariant-loop : goal.invariant-loop
invariant-loop l = IsBehind l.counter l.fn.text l.rest
