-- The choices so far are vertices and ways.
use Rattle.std.proofs.Common.{ℕ, ◌<◌, length}
use Rattle.ml_parity.specs.declared.players.Player.{Player}
use Rattle.ml_parity.specs.Solution.{choice_at}
use Rattle.ml_game_check.specs.RightClaims.{IsClaimed, IsWay}
use Rattle.ml_game_check.proofs.circles.are_chosen.Given as goal

abbrev pub invariant-loop-vertex : goal.invariant-loop-vertex
invariant-loop-vertex l =
    (k : ℕ) → k < l.vertex
    → (choice_at l.choices k < length l.choices)
    × ((p : Player) → IsClaimed l.claims p k → IsWay l.game l.claims p k (choice_at l.choices k))
