use Rattle.std.proofs.Common.{◌≡◌, ℕ, ◌<◌, length, get_or}
use Rattle.ml_lists.specs.Counting.{count}
use Rattle.ml_history.specs.private.TreeStep.{flagged}
use Rattle.ml_history.proofs.names.numbers.Given as goal

abbrev pub invariant-loop-flag : goal.invariant-loop-flag
invariant-loop-flag l =
    (length l.numbers.items ≡ l.flag-index) × (l.below ≡ count (flagged l.flags) l.flag-index)
    × ((y : ℕ) → y < l.flag-index → get_or l.numbers.items y 0 ≡ count (flagged l.flags) y)
