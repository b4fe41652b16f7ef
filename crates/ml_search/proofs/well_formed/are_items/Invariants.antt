use Rattle.std.proofs.Common.{ℕ, ◌<◌, get_or}
use Rattle.ml_refutation.specs.Refutation.{IsItem}
use Rattle.ml_refutation.specs.Views.{item_of}
use Rattle.ml_refutation.specs.declared.refutation.Item.{Item}
use Rattle.ml_search.proofs.well_formed.are_items.Given as goal

abbrev pub invariant-loop-item : goal.invariant-loop-item
invariant-loop-item l = (k : ℕ) (d : Item) → k < l.item-index → IsItem l.live (item_of l.stacks (get_or l.items k d))
