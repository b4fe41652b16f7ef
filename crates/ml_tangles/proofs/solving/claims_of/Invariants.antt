-- The claims so far.
use Rattle.std.proofs.Common.{ℕ, ◌≡◌, ◌<◌, length, Some}
use Rattle.ml_parity.specs.Solution.{choice_at, winner_at}
use Rattle.ml_game_check.specs.RightClaims.{claim, claim_at}
use Rattle.ml_tangles.proofs.solving.claims_of.Given as goal

abbrev pub invariant-loop-vertex : goal.invariant-loop-vertex
invariant-loop-vertex l =
    (length l.claims.items ≡ l.vertex)
    × ((k : ℕ) → k < l.vertex → claim_at l.claims.items k ≡ Some (claim (winner_at l.winner k) (Some (choice_at l.choice k))))
