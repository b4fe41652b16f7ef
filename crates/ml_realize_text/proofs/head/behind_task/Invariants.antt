use Rattle.ml_realize_text.proofs.HeadRead.{IsBehind}
use Rattle.ml_realize_text.proofs.head.behind_task.Given as goal

abbrev pub invariant-loop : goal.invariant-loop
invariant-loop l = IsBehind l.counter l.fn.at l.rest
