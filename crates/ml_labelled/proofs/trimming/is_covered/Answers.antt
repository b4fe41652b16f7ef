use Rattle.std.proofs.Common.{sym, subst}
use Rattle.ml_lists.specs.Member.{IsMember}
use Rattle.ml_lists.proofs.Member.{member-map, place-member}
use Rattle.ml_labelled.specs.declared.labelled.CubeEdge.{CubeEdge}
use Rattle.ml_labelled.specs.private.Views.{edge_of}
use Rattle.ml_labelled.proofs.trimming.is_covered.Goals as goal

pub returns-then-covers : goal.returns-then-covers
returns-then-covers c = λ _.
    let kept = c.args.kept.now in
    let x = c.index-kept-i.result in
    let m : IsMember x kept =
    subst (λ (y : CubeEdge). IsMember y kept) (sym c.index-kept-i.is)
    (place-member kept c.loop-i.i x c.loop-i-test.true) in
    (edge_of x, member-map edge_of x kept m, c.covers.ensures c.if-covers.true)
