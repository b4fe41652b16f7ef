-- The vertices before the place are claimed.
use Rattle.std.proofs.Common.{ℕ, ◌<◌, get_or}
use Rattle.ml_game_check.specs.RightClaims.{IsClaimed}
use Rattle.ml_game_check.proofs.early.unclaimed.Given as goal

abbrev pub invariant-loop-vertex : goal.invariant-loop-vertex
invariant-loop-vertex l = (k : ℕ) → k < l.vertex-index → (d : ℕ) → IsClaimed l.claims l.player (get_or l.vertices k d)
