use Rattle.std.proofs.Common.{ℕ, ◌<◌, get_or}
use Rattle.ml_labelled.specs.declared.labelled.Literal.{Literal}
use Rattle.ml_translate.proofs.cube.split.Given as goal

abbrev pub invariant-loop-i : goal.invariant-loop-i
invariant-loop-i l = (k : ℕ) (d : Literal) → k < l.i → (get_or l.cube k d).prop < l.prop
