use Rattle.std.proofs.Common.{◌≡◌, ◌<◌, ℕ}
use Rattle.std.specs.declared.cmp.Ordering.TheVariants.{Equal}
use Rattle.ml_history.specs.HistoryOrder.{item_cmp}
use Rattle.ml_history.specs.private.Keys.{item_at}
use Rattle.ml_history.proofs.flat.comparing.compare.Given as goal

abbrev pub invariant-loop-i : goal.invariant-loop-i
invariant-loop-i l = (j : ℕ) → j < l.i → item_cmp (item_at l.left j) (item_at l.right j) ≡ Equal
