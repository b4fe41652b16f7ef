-- No vertex before v is a dead end.
use Rattle.std.proofs.Common.{ℕ, ◌<◌}
use Rattle.ml_parity.specs.Refusal.{IsDeadEnd, lists_of}
use Rattle.ml_parity.proofs.games.first_dead_end.Given as goal

abbrev pub invariant-loop-v : goal.invariant-loop-v
invariant-loop-v l = (k : ℕ) → k < l.v → IsDeadEnd (lists_of l.successors) k → ⊥
