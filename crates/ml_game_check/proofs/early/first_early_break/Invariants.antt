-- No vertex before the vertex breaks one of the first three rules.
use Rattle.std.proofs.Common.{ℕ, ◌<◌}
use Rattle.ml_game_check.specs.Verdicts.{BreaksEarly}
use Rattle.ml_game_check.proofs.early.first_early_break.Given as goal

abbrev pub invariant-loop-vertex : goal.invariant-loop-vertex
invariant-loop-vertex l = (k : ℕ) → k < l.vertex → BreaksEarly l.game l.claims k → ⊥
