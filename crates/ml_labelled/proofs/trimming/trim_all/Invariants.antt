use Rattle.ml_labelled.specs.private.Trimming.{AreTrimmedTo}
use Rattle.ml_labelled.proofs.trimming.trim_all.Given as goal

abbrev pub invariant-loop-p : goal.invariant-loop-p
invariant-loop-p l = AreTrimmedTo l.guide l.p l.fn.rows.items l.rows.items
