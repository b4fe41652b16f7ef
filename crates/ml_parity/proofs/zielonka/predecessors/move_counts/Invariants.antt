-- So many counts so far.
use Rattle.std.proofs.Common.{ℕ, ◌≡◌, ◌<◌, length, get_or}
use Rattle.ml_parity.specs.Game.{moves_of}
use Rattle.ml_parity.proofs.zielonka.predecessors.move_counts.Given as goal

abbrev pub invariant-loop-vertex : goal.invariant-loop-vertex
invariant-loop-vertex l = record {
  long : length l.counts.items ≡ l.vertex;
  each : (v : ℕ) → v < l.vertex → get_or l.counts.items v 0 ≡ length (moves_of l.game v);
}
