use Rattle.std.proofs.Common.{arith}
use Rattle.ml_refutation.specs.Refutation.{IsItem}
use Rattle.ml_refutation.specs.Views.{item_of}
use Rattle.ml_search.proofs.Tested.{All-mapped, above_rise}
use Rattle.ml_search.proofs.well_formed.is_traced.Goals as goal

pub returns-then-rise : goal.returns-then-rise
returns-then-rise c =
    λ yes. record {
      within = omega (arith, c.if-live-names.false);
      ascend = above_rise c.args.stacks.now c.args.items.now (c.rise.ensures c.if-rise.true);
      are_items = All-mapped (IsItem c.args.live) (item_of c.args.stacks.now) c.args.items.now (c.are_items.ensures yes);
    }
