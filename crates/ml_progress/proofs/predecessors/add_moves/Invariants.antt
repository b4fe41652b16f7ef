-- The moves so far are in their chains.
use Rattle.std.proofs.Common.{length}
use Rattle.ml_progress.specs.private.Waits.{AddsMoves}
use Rattle.ml_progress.proofs.predecessors.add_moves.Given as goal

abbrev pub invariant-loop-to : goal.invariant-loop-to
invariant-loop-to l =
    AddsMoves (length l.initial.last) l.vertex l.to-index l.moves l.initial.last l.initial.arrows.items l.last l.arrows.items
