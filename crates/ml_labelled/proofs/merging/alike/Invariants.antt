use Rattle.ml_labelled.specs.private.Merging.{AreAlike}
use Rattle.ml_labelled.specs.private.Views.{rows_of}
use Rattle.ml_labelled.proofs.merging.alike.Given as goal

abbrev pub invariant-loop-p : goal.invariant-loop-p
invariant-loop-p l = AreAlike l.p (rows_of l.rows) l.targets.items
