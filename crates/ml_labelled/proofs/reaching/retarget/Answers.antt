use Rattle.std.proofs.Common.{◌<◌, ◌≤◌, length, map, get_or, arith, sym, ap, ◌∙◌, subst}
use Rattle.ml_lists.proofs.Member.{member-map, place-member}
use Rattle.ml_labelled.specs.declared.labelled.CubeEdge.{CubeEdge}
use Rattle.ml_labelled.specs.private.Views.{edge_of}
use Rattle.ml_labelled.proofs.Retargeted.{edges_all, written_back}
use Rattle.ml_labelled.proofs.reaching.retarget.Goals as goal

pub bounds-numbers-edge : goal.bounds-numbers-edge
bounds-numbers-edge c =
    let l = c.loop-edge in
    let i = l.edge-index in
    let x = c.edge-item.result in
    let old = c.args.edges.now.items in
    let e = get_or old i x in
    let long = l.invariant.as_long in
    let below = c.loop-edge-test.true in
    let low = c.requires (edge_of e) (member-map edge_of e old (place-member old i x (omega arith))) in
    subst (λ (y : CubeEdge). y.to < length c.args.numbers.now) (sym (l.invariant.ahead i x (omega arith))) low

pub returns : goal.returns
returns c =
    let l = c.loop-edge in
    let old = c.args.edges.now.items in
    let past : length l.edge-items ≤ l.edge-index = omega arith in
    ap (map edge_of)
    (written_back c.args.edges.now.len l.edge-items old (let ok = c.args.edges.now.ok.0 in omega arith) l.invariant.as_long)
    ∙ edges_all c.args.numbers.now l.edge-index old l.edge-items past l.invariant
