-- The lists so far are those of the table.
use Rattle.std.proofs.Common.{◌≡◌, take}
use Rattle.ml_progress.specs.Measured.{measure_in}
use Rattle.ml_progress.proofs.solving.entries.Given as goal

abbrev pub invariant-loop-vertex : goal.invariant-loop-vertex
invariant-loop-vertex l = measure_in l.entries.items ≡ take l.vertex l.table.rows
