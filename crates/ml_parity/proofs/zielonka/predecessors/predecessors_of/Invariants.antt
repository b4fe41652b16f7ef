-- The chains have the moves of the vertices from here on.
use Rattle.ml_parity.proofs.Backwards.{ChainsFrom}
use Rattle.ml_parity.proofs.zielonka.predecessors.predecessors_of.Given as goal

abbrev pub invariant-loop-vertex : goal.invariant-loop-vertex
invariant-loop-vertex l = ChainsFrom l.game l.last.items l.arrows.items l.vertex
