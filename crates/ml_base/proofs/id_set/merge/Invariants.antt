-- What was written, and what is left of the two lists, are the two lists; each turn leaves less.
use Rattle.std.proofs.Common.{◌+◌, length}
use Rattle.ml_base.proofs.Merging.{Merged}
use Rattle.ml_base.proofs.id_set.merge.Given as goal

abbrev pub invariant-loop-xs : goal.invariant-loop-xs
invariant-loop-xs l = Merged l.left l.right l.both.items l.xs l.ys

abbrev pub decreases-loop-xs : goal.decreases-loop-xs
decreases-loop-xs l = length l.xs + length l.ys
