use Rattle.std.proofs.Common.{ℕ, ◌≡◌, ◌≤◌, ◌<◌, ◌+◌, ◌-◌, get_or, length}
use Rattle.ml_product.specs.declared.recorded.Recorded.TheVariants as recorded
use Rattle.ml_product.proofs.recording.make_room.Given as goal

abbrev pub invariant-loop-all : goal.invariant-loop-all
invariant-loop-all l = record {
  same : (w : ℕ) → get_or l.all.items w recorded.Waiting ≡ get_or l.fn.all.items w recorded.Waiting;
  few : (n : ℕ) → length l.fn.all.items ≤ n → l.v < n → length l.all.items ≤ n;
}

abbrev pub decreases-loop-all : goal.decreases-loop-all
decreases-loop-all l = l.v + 1 - length l.all.items
