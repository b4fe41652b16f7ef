-- The moves of the vertices so far are in their chains.
use Rattle.ml_progress.specs.private.Waits.{ChainsUpTo}
use Rattle.ml_progress.proofs.predecessors.predecessors_of.Given as goal

abbrev pub invariant-loop-vertex : goal.invariant-loop-vertex
invariant-loop-vertex l = ChainsUpTo l.game l.vertex l.last.items l.arrows.items
