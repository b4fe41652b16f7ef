use Rattle.std.proofs.Common.{ℕ, ◌≡◌, ◌<◌, length, get_or}
use Rattle.ml_sequent.proofs.levels.ranked.Given as goal

abbrev pub invariant-loop-priority : goal.invariant-loop-priority
invariant-loop-priority l = record {
  sized : length l.ranks.items ≡ l.priority-index;
  low : (k : ℕ) → k < l.priority-index → get_or l.ranks.items k 0 < length l.priorities.items;
  right : (k : ℕ) → k < l.priority-index → get_or l.priorities.items (get_or l.ranks.items k 0) 0 ≡ get_or l.graph.priorities k 0;
}
