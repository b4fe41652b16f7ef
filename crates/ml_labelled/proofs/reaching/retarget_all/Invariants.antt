use Rattle.ml_labelled.specs.private.Reaching.{RowsAreRetargetedTo}
use Rattle.ml_labelled.proofs.reaching.retarget_all.Given as goal

abbrev pub invariant-loop-row : goal.invariant-loop-row
invariant-loop-row l = RowsAreRetargetedTo l.row-index l.numbers l.fn.rows.items l.row-items
