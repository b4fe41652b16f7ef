use Rattle.std.proofs.Common.{length, ap, arith}
use Rattle.ml_product.proofs.Placing.{placed_length}
use Rattle.ml_product.proofs.store.Store.len.Goals as goal

pub returns : goal.returns
returns c =
    let long = placed_length c.self.inside.all.items in
    let same = ap length c.self.view_is in
    let len = c.self.inside.all.ok.0 in
    omega (arith, c.len.ensures)
