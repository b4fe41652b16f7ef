use Rattle.std.proofs.Common.{◌≡◌, ◌++◌, drop}
use Rattle.ml_spec.specs.Comments.{uncommented, uncommented_from}
use Rattle.ml_spec.proofs.comments.uncommented.Given as goal

abbrev pub invariant-loop-byte : goal.invariant-loop-byte
invariant-loop-byte l = l.plain.items ++ uncommented_from l.inside (drop l.byte-index l.text) ≡ uncommented l.text
