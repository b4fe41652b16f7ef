use Rattle.std.proofs.Common.{arith, [], ◌∷◌, ◌++◌, take, sym, ap, ◌∙◌, subst}
use Rattle.std.proofs.lemmas.List.{map-append, take_more}
use Rattle.ml_lists.proofs.Member.{member-map, place-member}
use Rattle.ml_lists.specs.Member.{IsMember}
use Rattle.ml_labelled.specs.declared.labelled.CubeEdge.{CubeEdge}
use Rattle.ml_labelled.specs.private.Reaching.{IsSpread, targets}
use Rattle.ml_labelled.proofs.SpreadMarks.{spread_both}
use Rattle.ml_labelled.proofs.reaching.visit_all.Goals as goal

pub visit-requires : goal.visit-requires
visit-requires c =
    let e = c.edge-item.result in
    let es = c.args.edges.now in
    let m : IsMember e es =
    subst (λ (x : CubeEdge). IsMember x es) (sym c.edge-item.is) (place-member es c.loop-edge.edge-index e c.loop-edge-test.true) in
    let low = c.requires e.to (member-map (λ (x : CubeEdge). x.to) e es m) in
    let long = c.loop-edge.invariant.as_long in
    omega arith

pub loop-edge-preserved : goal.loop-edge-preserved
loop-edge-preserved c =
    let l = c.loop-edge in
    let e = c.edge-item.result in
    let es = c.args.edges.now in
    let to = λ (x : CubeEdge). x.to in
    let more =
    sym (map-append to (take l.edge-index es) (e ∷ []))
    ∙ ap (λ (x : CubeEdge). targets (take l.edge-index es ++ x ∷ [])) c.edge-item.is
    ∙ sym (ap targets (take_more es l.edge-index e c.loop-edge-test.true)) in
    subst (λ ts. IsSpread ts c.args.marks.now.items c.args.waiting.now.items c.visit.new.marks.items c.visit.new.waiting.items) more
    (spread_both (targets (take l.edge-index es)) (e.to ∷ []) c.args.marks.now.items l.marks.items c.visit.new.marks.items
    c.args.waiting.now.items l.waiting.items c.visit.new.waiting.items l.invariant c.in_ok-visit.ensures)
