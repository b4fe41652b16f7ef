use Rattle.std.proofs.Common.{◌≡◌}
use Rattle.ml_lists.specs.Counting.{count}
use Rattle.ml_history.specs.private.TreeStep.{flagged}
use Rattle.ml_history.proofs.names.how_many.Given as goal

abbrev pub invariant-loop-flag : goal.invariant-loop-flag
invariant-loop-flag l = l.many ≡ count (flagged l.flags) l.flag-index
