use Rattle.std.proofs.Common.{ℕ, ◌<◌, ◌+◌, get_or, IsTrue}
use Rattle.ml_refutation.specs.Refutation.{comes_before}
use Rattle.ml_refutation.specs.declared.refutation.Item.{Item}
use Rattle.ml_search.specs.private.Checked.{state_in}
use Rattle.ml_search.proofs.well_formed.rise.Given as goal

abbrev pub invariant-loop-i : goal.invariant-loop-i
invariant-loop-i l =
    (k : ℕ) (d : Item) → k + 1 < l.i
    → IsTrue (comes_before (state_in (get_or l.items k d)) (state_in (get_or l.items (k + 1) d)))
