use Rattle.std.proofs.Common.{◌≡◌, List, get_or, length, sym, ap, subst, ◌∙◌, arith}
use Rattle.ml_base.specs.declared.structure.Edge.{Edge}
use Rattle.ml_lists.specs.Member.{IsMember}
use Rattle.ml_lists.proofs.Member.{place-member}
use Rattle.ml_search.proofs.checking_models.reach.Goals as goal

pub pass-requires-clause-member : goal.pass-requires-clause-member
pass-requires-clause-member c =
    let e = c.edge-item.result in
    let all = c.edges-edge-items.ensures in
    let is : e ≡ get_or c.args.structure.now.edges c.loop-edge.edge-index e =
    c.edge-item.is ∙ ap (λ (es : List Edge). get_or es c.loop-edge.edge-index e) all in
    subst (λ (f : Edge). IsMember f c.args.structure.now.edges) (sym is)
    (place-member c.args.structure.now.edges c.loop-edge.edge-index e
    (omega (arith, c.loop-edge-test.true, ap length all)))
