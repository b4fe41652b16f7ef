-- The names from the place `rest` on are flagged.
use Rattle.std.proofs.Common.{◌≡◌, ◌≤◌, length}
use Rattle.ml_history.specs.private.TreeStep.{flagged}
use Rattle.ml_history.proofs.arrays.FlagsAlongStacks.{FlagsFrom}
use Rattle.ml_history.proofs.flat.cutting.set_flags.Given as goal

abbrev pub invariant-loop-rest : goal.invariant-loop-rest
invariant-loop-rest l = record {
  inside : l.rest ≤ length l.stack;
  count : length l.flags.items ≡ length l.fn.flags.items;
  flags : FlagsFrom (flagged l.fn.flags.items) l.stack l.rest l.flags.items;
}

abbrev pub decreases-loop-rest : goal.decreases-loop-rest
decreases-loop-rest l = l.rest
