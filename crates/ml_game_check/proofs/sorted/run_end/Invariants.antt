-- No seam is lower up to the end.
use Rattle.std.proofs.Common.{ℕ, ◌<◌, ◌≤◌, get_or}
use Rattle.ml_game_check.proofs.sorted.run_end.Given as goal

abbrev pub invariant-loop : goal.invariant-loop
invariant-loop l = (x : ℕ) → l.start ≤ x → x < l.stop → get_or l.seams l.start 0 ≤ get_or l.seams x 0
