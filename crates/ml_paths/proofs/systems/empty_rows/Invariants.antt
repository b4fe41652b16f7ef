use Rattle.std.proofs.Common.{◌≡◌, ◌≤◌, ◌-◌, ℕ, [], length}
use Rattle.ml_emptiness.specs.Systems.{moves_of, table_of}
use Rattle.ml_paths.proofs.systems.empty_rows.Given as goal

abbrev pub invariant-loop-alloc : goal.invariant-loop-alloc
invariant-loop-alloc l = record {
  few : length l.system.items ≤ l.count;
  empty : (a : ℕ) → moves_of (table_of l.system.items) a ≡ [];
}

abbrev pub decreases-loop-alloc : goal.decreases-loop-alloc
decreases-loop-alloc l = l.count - length l.system.items
