-- The sequent and the history stand where they stood, and the position is a new one.
use Rattle.std.proofs.Common.{List, length, sym, subst}
use Rattle.ml_lists.specs.Added.{IsAdded}
use Rattle.ml_sequent.specs.Choice.{with_side}
use Rattle.ml_product.specs.Placed.{Placed}
use Rattle.ml_product.specs.private.Pools.{IsPool, beside}
use Rattle.ml_product.specs.private.Shared.{shown}
use Rattle.ml_product.proofs.Interning.{chosen_pool, chosen_added}
use Rattle.ml_product.proofs.pool.Pool.add_chosen.Goals as goal

pub returns : goal.returns
returns c = λ p at.
    let a = c.args.self.now in
    let ss = a.sequents.keys in
    let hs = a.histories.keys in
    let xs = a.positions in
    let here = sym c.in_ok-push_chosen.ensures in
    record {
      is_pool = subst (λ (ys : List Placed). IsPool ss hs ys a.tops.keys a.top_numbers.items) here
          (chosen_pool ss hs xs c.args.v c.args.priority c.args.node c.args.side p a.tops.keys a.top_numbers.items
          c.requires.pool c.requires.number at (c.requires.is_new p at));
      added = subst (λ n. IsAdded (shown ss hs xs) (beside p c.args.priority (with_side p.choice c.args.node c.args.side))
          (shown ss hs c.push_chosen.new.self) n) (sym c.len-next.ensures)
          (subst (λ (ys : List Placed). IsAdded (shown ss hs xs)
          (beside p c.args.priority (with_side p.choice c.args.node c.args.side)) (shown ss hs ys) (length xs)) here
          (chosen_added ss hs xs c.args.v c.args.priority c.args.node c.args.side p a.tops.keys a.top_numbers.items
          c.requires.pool c.requires.number at (c.requires.is_new p at)));
      stored = record { more = _; is = c.in_ok-push_chosen.ensures };
    }
