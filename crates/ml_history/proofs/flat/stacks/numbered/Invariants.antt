-- The names of the first parts have their numbers.
use Rattle.std.proofs.Common.{length, get_or}
use Rattle.ml_history.specs.private.Arrays.{IsNumberedPart}
use Rattle.ml_history.proofs.flat.stacks.numbered.Given as goal

abbrev pub invariant-loop-i : goal.invariant-loop-i
invariant-loop-i l = IsNumberedPart (λ y. get_or l.numbers y 0) 0 (get_or l.starts l.i (length l.fn.names.items))
    l.fn.names.items l.names.items
