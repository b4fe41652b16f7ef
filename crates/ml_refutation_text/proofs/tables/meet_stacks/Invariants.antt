use Rattle.std.proofs.Common.{◌≡◌, map, fold, take}
use Rattle.ml_refutation.specs.Views.{item_of}
use Rattle.ml_refutation_text.specs.Canonical.{with_new}
use Rattle.ml_refutation_text.proofs.tables.meet_stacks.Given as goal

abbrev pub invariant-loop-item : goal.invariant-loop-item
invariant-loop-item l =
    l.table
    ≡ record {
      all = l.fn.table.all;
      met = fold with_new l.fn.table.met (map (λ a. a.stack) (map (item_of l.fn.table.all) (take l.item-index l.items)));
    }
