-- No move so far progresses.
use Rattle.std.proofs.Common.{ℕ, ◌<◌, get_or}
use Rattle.ml_progress.specs.Measure.{Progresses}
use Rattle.ml_progress.proofs.choices.first_progress.Given as goal

abbrev pub invariant-loop-to : goal.invariant-loop-to
invariant-loop-to l =
    (k : ℕ) → k < l.to-index → Progresses l.game l.side.scale.player l.side.table.rows l.vertex (get_or l.to-items k 0) → ⊥
