-- The vertex is added for the moves so far.
use Rattle.std.proofs.Common.{take}
use Rattle.ml_parity.specs.private.Chains.{AddsTo}
use Rattle.ml_parity.proofs.zielonka.predecessors.add_moves.Given as goal

abbrev pub invariant-loop-to : goal.invariant-loop-to
invariant-loop-to l =
    AddsTo l.initial.last l.initial.arrows.items l.last l.arrows.items l.vertex (take l.to-index l.moves)
