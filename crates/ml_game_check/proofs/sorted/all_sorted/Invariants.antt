-- The vertices so far are sorted.
use Rattle.std.proofs.Common.{ℕ, ◌<◌}
use Rattle.ml_parity.specs.declared.players.Player.{Player}
use Rattle.ml_game_check.specs.RightClaims.{IsClaimed}
use Rattle.ml_game_check.specs.private.Seams.{IsSortedAt, at}
use Rattle.ml_game_check.proofs.sorted.all_sorted.Given as goal

abbrev pub invariant-loop-vertex : goal.invariant-loop-vertex
invariant-loop-vertex l =
    (k : ℕ) → k < l.vertex → (p : Player) → IsClaimed l.claims p k
    → IsSortedAt l.game l.claims (at l.row.places.items) (at l.row.seams.items) p k
