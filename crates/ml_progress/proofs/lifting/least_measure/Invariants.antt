-- The measure is low, and each vertex is settled or waits.
use Rattle.std.proofs.Common.{◌≡◌, ◌+◌, ◌*◌, length}
use Rattle.ml_progress.specs.private.Lifting.{room}
use Rattle.ml_progress.proofs.RisingMeasures.{Rising}
use Rattle.ml_progress.proofs.lifting.least_measure.Given as goal

abbrev pub invariant-loop-vertex : goal.invariant-loop-vertex
invariant-loop-vertex l = record {
  wide : l.table.wide ≡ length l.scale.bounds.items;
  room : length l.next.items ≡ length l.scale.bounds.items;
  rising : Rising l.game l.scale.player l.table.rows l.waiting.flags.items l.waiting.queue.items;
}

abbrev pub decreases-loop-vertex : goal.decreases-loop-vertex
decreases-loop-vertex l =
    room l.game l.scale.player l.table.rows * (length l.predecessors.arrows.items + 1) + length l.waiting.queue.items
