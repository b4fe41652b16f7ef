-- No vertex before the vertex is lost.
use Rattle.std.proofs.Common.{ℕ, ◌<◌}
use Rattle.ml_game_check.specs.private.WayGame.{IsLost}
use Rattle.ml_game_check.proofs.cycles.first_lost.Given as goal

abbrev pub invariant-loop-vertex : goal.invariant-loop-vertex
invariant-loop-vertex l = (k : ℕ) → k < l.vertex → IsLost l.claims l.winners k → ⊥
