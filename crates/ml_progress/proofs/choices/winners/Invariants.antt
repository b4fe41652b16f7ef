-- The winners so far are told.
use Rattle.std.proofs.Common.{ℕ, ◌≡◌, ◌<◌, get_or, length}
use Rattle.ml_parity.specs.declared.players.Player.TheVariants.{Even}
use Rattle.ml_progress.specs.Measure.{measure_at}
use Rattle.ml_progress.specs.private.Choices.{winner_from}
use Rattle.ml_progress.proofs.choices.winners.Given as goal

abbrev pub invariant-loop-vertex : goal.invariant-loop-vertex
invariant-loop-vertex l = record {
  long : length l.winners.items ≡ l.vertex;
  each : (v : ℕ) → v < l.vertex → get_or l.winners.items v Even ≡ winner_from (measure_at l.even.rows v);
}
