-- The measure is low.
use Rattle.std.proofs.Common.{◌≡◌, length}
use Rattle.ml_progress.specs.private.Lifting.{IsLow}
use Rattle.ml_progress.proofs.lifting.first_table.Given as goal

abbrev pub invariant-loop-vertex : goal.invariant-loop-vertex
invariant-loop-vertex l = record {
  wide : l.table.wide ≡ length l.scale.bounds.items;
  low : IsLow l.game l.scale.player l.table.rows;
}
