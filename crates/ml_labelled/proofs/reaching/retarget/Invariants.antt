use Rattle.ml_labelled.specs.private.Reaching.{AreRetargetedTo}
use Rattle.ml_labelled.proofs.reaching.retarget.Given as goal

abbrev pub invariant-loop-edge : goal.invariant-loop-edge
invariant-loop-edge l = AreRetargetedTo l.edge-index l.numbers l.fn.edges.items l.edge-items
