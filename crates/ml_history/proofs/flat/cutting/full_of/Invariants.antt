use Rattle.std.proofs.Common.{◌≡◌, ◌<◌, ◌&&◌, not, ℕ, length}
use Rattle.ml_history.specs.private.TreeStep.{flagged}
use Rattle.ml_history.proofs.flat.cutting.full_of.Given as goal

abbrev pub invariant-loop-y : goal.invariant-loop-y
invariant-loop-y l =
    (length l.full.items ≡ l.y) × ((z : ℕ) → z < l.y → flagged l.full.items z
    ≡ (flagged l.standing z && not (flagged l.ends z)))
