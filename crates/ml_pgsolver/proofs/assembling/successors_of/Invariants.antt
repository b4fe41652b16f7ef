use Rattle.ml_parity.specs.Refusal.{lists_of}
use Rattle.ml_pgsolver.specs.private.Assembled.{AreGiven}
use Rattle.ml_pgsolver.specs.private.Rows.{rows_view}
use Rattle.ml_pgsolver.proofs.assembling.successors_of.Given as goal

abbrev pub invariant-loop-row : goal.invariant-loop-row
invariant-loop-row l =
    (goal.iterator-loop-row).can_next l.row-iterator
    × (goal.iterator-loop-row).is_finite l.row-iterator
    × AreGiven l.ids (lists_of l.given.items) (rows_view l.yielded)
