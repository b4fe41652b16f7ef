use Rattle.ml_labelled.proofs.ReachedParts.{IsReachedPart}
use Rattle.ml_labelled.proofs.reducing.settled.Given as goal

abbrev pub invariant-loop-next : goal.invariant-loop-next
invariant-loop-next l = IsReachedPart l.fn.automaton l.small

abbrev pub decreases-loop-next : goal.decreases-loop-next
decreases-loop-next l = l.size
