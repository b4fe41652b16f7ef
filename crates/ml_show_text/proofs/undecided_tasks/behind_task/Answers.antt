use Rattle.ml_show_text.proofs.CutTasks.{behind_next}
use Rattle.ml_show_text.proofs.undecided_tasks.behind_task.Goals as goal

pub loop-preserved : goal.loop-preserved
loop-preserved c =
    behind_next c.loop.counter c.args.text.now c.loop.rest.now c.behind_line-rest.result.now c.loop.invariant
    c.behind_line-rest.ensures
