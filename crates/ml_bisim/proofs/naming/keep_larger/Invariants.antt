use Rattle.std.proofs.Common.{ℕ, ◌≡◌, ◌<◌, length, get_or}
use Rattle.ml_bisim.specs.Quotient.{class_of}
use Rattle.ml_bisim.specs.private.Rounds.{KeepsFrom}
use Rattle.ml_bisim.proofs.naming.keep_larger.Given as goal

abbrev pub invariant-loop-i : goal.invariant-loop-i
invariant-loop-i l = record {
  each_class : length l.keeper ≡ length l.fn.keeper;
  kept : (j : ℕ)
      → j < length l.states
      → KeepsFrom l.class l.states l.parts.numbers.items l.keeper 0 (class_of l.class (get_or l.states j 0));
}
