use Rattle.std.proofs.Common.{ℕ, ◌≡◌, ◌%◌, ◌<◌, length}
use Rattle.ml_paths.specs.private.Shortening.{Repeats}
use Rattle.ml_paths.proofs.shortening.least_period.Given as goal

abbrev pub invariant-loop-period : goal.invariant-loop-period
invariant-loop-period l = (e : ℕ) → 0 < e → e < l.period → length l.states % e ≡ 0 → ¬ (Repeats l.states e)
