-- The flags so far are those by the edges so far.
use Rattle.std.proofs.Common.{◌≡◌, take}
use Rattle.ml_base.proofs.EdgeSets.{some_states}
use Rattle.ml_pdl_meaning.proofs.sets.edges_into.Given as goal

abbrev pub invariant-loop-edge : goal.invariant-loop-edge
invariant-loop-edge l = l.states.items ≡ some_states (take l.edge-index l.edge-items) l.action l.set l.structure.states
