use Rattle.std.proofs.Common.{◌≡◌, ℕ, ◌<◌, false, ◌&&◌, not, ltb}
use Rattle.ml_history.specs.private.TreeStep.{flagged}
use Rattle.ml_history.proofs.names.least_red.Given as goal

abbrev pub invariant-loop-y : goal.invariant-loop-y
invariant-loop-y l = (k : ℕ) → k < l.y → (ltb k l.used && not (flagged l.standing k)) ≡ false
