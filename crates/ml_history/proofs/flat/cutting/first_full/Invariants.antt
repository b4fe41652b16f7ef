use Rattle.std.proofs.Common.{◌≡◌, ◌<◌, ℕ, false}
use Rattle.ml_history.specs.private.TreeStep.{flagged}
use Rattle.ml_history.proofs.flat.cutting.first_full.Given as goal

abbrev pub invariant-loop-y : goal.invariant-loop-y
invariant-loop-y l = (z : ℕ) → z < l.y → flagged l.full z ≡ false
