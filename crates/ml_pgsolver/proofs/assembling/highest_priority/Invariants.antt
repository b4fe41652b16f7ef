use Rattle.std.proofs.Common.{◌≡◌, drop}
use Rattle.ml_pgsolver.specs.private.Assembled.{highest_of}
use Rattle.ml_pgsolver.specs.private.Rows.{rows_view}
use Rattle.ml_pgsolver.proofs.assembling.highest_priority.Given as goal

abbrev pub invariant-loop-row : goal.invariant-loop-row
invariant-loop-row l = highest_of 0 (rows_view l.fn.rows) ≡ highest_of l.highest (rows_view (drop l.row-index l.rows))
