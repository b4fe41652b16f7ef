use Rattle.ml_bisim.proofs.Entering.{Passed}
use Rattle.ml_bisim.proofs.rounds.unsettle_before.Given as goal

abbrev pub invariant-loop-rest : goal.invariant-loop-rest
invariant-loop-rest l =
    Passed l.structure.edges l.class l.structure.states l.state l.fn.is_settled l.rest l.is_settled l.unsettled.items

abbrev pub decreases-loop-rest : goal.decreases-loop-rest
decreases-loop-rest l = l.rest
