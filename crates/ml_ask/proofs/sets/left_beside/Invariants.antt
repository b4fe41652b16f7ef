use Rattle.ml_ask.proofs.TakenSets.{IsBesideTo}
use Rattle.ml_ask.proofs.sets.left_beside.Given as goal

abbrev pub invariant-loop-number : goal.invariant-loop-number
invariant-loop-number l = IsBesideTo l.left l.taken l.rest.items l.number
