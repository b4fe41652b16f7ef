-- One position more, with a parent.
use Rattle.std.proofs.Common.{◌++◌, ◌∷◌, [], List, length, sym, ap, ◌∙◌, subst}
use Rattle.ml_product.specs.Placed.{Placed}
use Rattle.ml_product.specs.private.Links.{placed, placed_all, HasParent, AreLinked}
use Rattle.ml_product.proofs.Placing.{placed_push, linked_push}
use Rattle.ml_product.proofs.store.Store.push.Goals as goal

pub invariant_of-self : goal.invariant_of-self
invariant_of-self c = subst AreLinked (sym c.in_err-push.ensures.items) c.self.invariant

pub invariant_of-self-2 : goal.invariant_of-self-2
invariant_of-self-2 c =
    let xs = c.self.inside.all.items in
    subst AreLinked (sym c.in_ok-push.ensures.items)
    (linked_push xs c.args.stored c.self.invariant
    (subst (λ ps. HasParent ps (length ps) c.args.stored.link) (sym c.self.view_is) c.requires))

pub returns : goal.returns
returns c =
    let xs = c.self.inside.all.items in
    ap placed_all c.in_ok-push.ensures.items ∙ placed_push xs c.args.stored
    ∙ ap (λ (ps : List Placed). ps ++ placed ps c.args.stored ∷ []) c.self.view_is
