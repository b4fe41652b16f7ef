use Rattle.ml_bisim.proofs.Scanning.{Scanned}
use Rattle.ml_bisim.proofs.choice.settled_in.Given as goal

abbrev pub invariant-loop-rest : goal.invariant-loop-rest
invariant-loop-rest l = Scanned l.class l.is_settled l.of l.fn.members.items l.rest l.members.items

abbrev pub decreases-loop-rest : goal.decreases-loop-rest
decreases-loop-rest l = l.rest
