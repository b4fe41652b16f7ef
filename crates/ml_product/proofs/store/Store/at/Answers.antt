-- What stands at a place is what is stored there.
use Rattle.std.proofs.Common.{ℕ, ◌≡◌, ◌<◌, List, length, ap, subst, arith}
use Rattle.ml_product.specs.declared.stored.Stored.{Stored}
use Rattle.ml_product.specs.Placed.{Placed}
use Rattle.ml_product.specs.private.Links.{placed_all, IsLinked}
use Rattle.ml_product.proofs.Placing.{placed_length, read_linked}
use Rattle.ml_product.proofs.store.Store.at.Goals as goal

low : (xs : List Stored) (ps : List Placed) (v : ℕ) → placed_all xs ≡ ps → v < length ps → v < length xs
low xs ps v is less = let long = placed_length xs in let same = ap length is in omega arith

pub index-requires : goal.index-requires
index-requires c =
    let len = c.self.inside.all.ok.0 in
    omega (arith, low c.self.inside.all.items c.args.self.now c.args.v c.self.view_is c.requires)

pub returns : goal.returns
returns c =
    let xs = c.self.inside.all.items in
    let x = c.index.result.now in
    subst (λ (ps : List Placed). IsLinked ps c.args.v x) c.self.view_is
    (read_linked xs c.args.v x c.self.invariant (low xs c.args.self.now c.args.v c.self.view_is c.requires)
    c.index.ensures)
