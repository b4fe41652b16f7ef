-- What a task keeps is a proposition: it holds in one way at most.
--
--   prop_task   == so it is
use Rattle.std.proofs.Props.{props}
use Rattle.ml_task.specs.Task.{Task, IsTask}

pub prop_task : (t : Task) → IsProp (IsTask t)
prop_task t = hlevel props
