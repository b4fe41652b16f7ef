-- The lowest priority in front of `at`.
use Rattle.ml_parity.proofs.VertexOrderLoops.{LowestSoFar}
use Rattle.ml_parity.proofs.zielonka.vertex_order.lowest_priority.Given as goal

abbrev pub invariant-loop-at : goal.invariant-loop-at
invariant-loop-at l = LowestSoFar l.game l.row.order.items l.at l.lowest
