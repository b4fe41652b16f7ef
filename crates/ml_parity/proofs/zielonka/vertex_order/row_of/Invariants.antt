-- So far the order has the numbers below `vertex`.
use Rattle.std.proofs.Common.{ℕ, ◌≡◌, ◌<◌, length, get_or}
use Rattle.ml_parity.proofs.zielonka.vertex_order.row_of.Given as goal

abbrev pub invariant-loop-vertex : goal.invariant-loop-vertex
invariant-loop-vertex l = record {
  long : length l.order.items ≡ l.vertex;
  each : (k : ℕ) → k < l.vertex → get_or l.order.items k 0 ≡ k;
}
