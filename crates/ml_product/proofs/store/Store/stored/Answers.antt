use Rattle.std.proofs.Common.{map, ap, ◌∙◌}
use Rattle.ml_product.specs.declared.stored.Stored.{Stored}
use Rattle.ml_product.specs.Placed.{Placed}
use Rattle.ml_product.proofs.Placing.{placed_priorities}
use Rattle.ml_product.proofs.store.Store.stored.Goals as goal

pub returns : goal.returns
returns c =
    ap (map (λ (x : Stored). x.priority)) c.deref.ensures.value ∙ placed_priorities c.self.inside.all.items
    ∙ ap (map (λ (p : Placed). p.priority)) c.self.view_is
