use Rattle.std.proofs.Common.{take}
use Rattle.ml_emptiness.specs.private.Leaving.{AreSameLetters}
use Rattle.ml_emptiness.proofs.leaving.by_source.Given as goal

abbrev pub invariant-loop-letter : goal.invariant-loop-letter
invariant-loop-letter l = AreSameLetters (take l.letter-index l.row) l.all.items
