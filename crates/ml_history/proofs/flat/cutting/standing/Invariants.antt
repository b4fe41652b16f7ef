use Rattle.std.proofs.Common.{◌≡◌, ℕ, length, take}
use Rattle.ml_history.specs.HistoryStep.{stands}
use Rattle.ml_history.specs.private.TreeStep.{flagged}
use Rattle.ml_history.proofs.flat.cutting.standing.Given as goal

abbrev pub invariant-loop-i : goal.invariant-loop-i
invariant-loop-i l = record {
  count : length l.flags.items ≡ l.bound;
  flags : (y : ℕ) → flagged l.flags.items y ≡ stands (take l.i l.stacks) y;
}
