use Rattle.ml_labelled.specs.private.Reaching.{IsKeptTo}
use Rattle.ml_labelled.proofs.reaching.keep_marked.Given as goal

abbrev pub invariant-loop-p : goal.invariant-loop-p
invariant-loop-p l = IsKeptTo l.p l.at l.marks l.fn.rows.items l.rows.items
