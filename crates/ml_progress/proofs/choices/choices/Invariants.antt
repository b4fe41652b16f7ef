-- The choices so far are made.
use Rattle.std.proofs.Common.{ℕ, ◌≡◌, ◌<◌, get_or, length}
use Rattle.ml_parity.specs.Game.{owner_of}
use Rattle.ml_progress.specs.private.Choices.{IsChoiceFor, measure_for}
use Rattle.ml_progress.proofs.choices.choices.Given as goal

abbrev pub invariant-loop-vertex : goal.invariant-loop-vertex
invariant-loop-vertex l = record {
  long : length l.choices.items ≡ l.vertex;
  each : (v : ℕ) → v < l.vertex → IsChoiceFor l.game (owner_of l.game v)
      (measure_for (owner_of l.game v) l.even.table.rows l.odd.table.rows) v (get_or l.choices.items v 0);
}
