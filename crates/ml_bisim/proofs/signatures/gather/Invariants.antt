use Rattle.ml_bisim.proofs.Steps.{Gathered}
use Rattle.ml_bisim.proofs.signatures.gather.Given as goal

abbrev pub invariant-loop-rest : goal.invariant-loop-rest
invariant-loop-rest l = Gathered l.structure.edges l.edges.actions.items l.class l.state l.rest l.steps.items

abbrev pub decreases-loop-rest : goal.decreases-loop-rest
decreases-loop-rest l = l.rest
