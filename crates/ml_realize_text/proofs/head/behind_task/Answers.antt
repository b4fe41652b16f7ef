use Rattle.ml_realize_text.proofs.HeadRead.{behind_next}
use Rattle.ml_realize_text.proofs.head.behind_task.Goals as goal

pub loop-preserved : goal.loop-preserved
loop-preserved c =
    behind_next c.loop.counter c.args.at c.loop.rest c.behind_line-rest.result c.loop.invariant c.behind_line-rest.ensures
