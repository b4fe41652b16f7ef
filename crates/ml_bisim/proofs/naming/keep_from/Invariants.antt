use Rattle.std.proofs.Common.{ℕ, ◌≡◌, ◌<◌, ◌≤◌, ◌⊎◌, length, get_or}
use Rattle.ml_bisim.specs.Quotient.{class_of}
use Rattle.ml_bisim.specs.private.Rounds.{KeepsFrom}
use Rattle.ml_bisim.proofs.naming.keep_from.Given as goal

abbrev pub invariant-loop-i : goal.invariant-loop-i
invariant-loop-i l = record {
  each_class : length l.keeper ≡ length l.fn.keeper;
  kept : (j : ℕ)
      → l.first ≤ j
      → j < l.i
      → KeepsFrom l.class l.states l.numbers l.keeper l.first (class_of l.class (get_or l.states j 0));
  others : (c : ℕ)
      → (get_or l.keeper c 0 ≡ get_or l.fn.keeper c 0) ⊎ KeepsFrom l.class l.states l.numbers l.keeper l.first c;
}
