use Rattle.std.proofs.Common.{◌≡◌, ◌≤◌, All, length}
use Rattle.ml_bisim.proofs.naming.sizes.Given as goal

abbrev pub invariant-loop-number : goal.invariant-loop-number
invariant-loop-number l = (length l.sizes.items ≡ l.count) × All (λ n. n ≤ l.number-index) l.sizes.items
