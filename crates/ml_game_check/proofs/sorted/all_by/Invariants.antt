-- The places of the vertices so far are within the bound.
use Rattle.std.proofs.Common.{ℕ, ◌<◌, ◌≤◌, get_or}
use Rattle.ml_game_check.specs.private.Seams.{at}
use Rattle.ml_game_check.proofs.sorted.all_by.Given as goal

abbrev pub invariant-loop-vertex : goal.invariant-loop-vertex
invariant-loop-vertex l = (k : ℕ) → k < l.vertex-index → (d : ℕ) → at l.places (get_or l.vertices k d) ≤ l.bound
