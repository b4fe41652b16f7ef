-- Runs of one seam, and then longer ones.
use Rattle.std.proofs.Common.{ℕ, ◌≡◌, ◌+◌, ◌<◌, length}
use Rattle.ml_game_check.specs.private.Seams.{AreRuns, at}
use Rattle.ml_game_check.proofs.sorted.runs.Given as goal

abbrev pub invariant-loop-start : goal.invariant-loop-start
invariant-loop-start l =
    (length l.ends.items ≡ l.start) × ((k : ℕ) → k < l.start → at l.ends.items k ≡ k + 1)

abbrev pub invariant-loop-start-2 : goal.invariant-loop-start-2
invariant-loop-start-2 l = AreRuns l.seams l.ends.items
