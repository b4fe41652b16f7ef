-- The flags so far are those by the edges so far.
use Rattle.std.proofs.Common.{◌≡◌, take}
use Rattle.ml_base.proofs.EdgeSets.{some_states}
use Rattle.ml_mu.proofs.evaluator.diamond.Given as goal

abbrev pub invariant-loop-edge : goal.invariant-loop-edge
invariant-loop-edge l = l.states.items ≡ some_states (take l.edge-index l.edge-items) l.action l.set l.structure.states
