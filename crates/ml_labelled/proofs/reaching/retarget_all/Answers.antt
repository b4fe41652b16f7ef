use Rattle.std.proofs.Common.{◌≤◌, length, get_or, arith, ap, ◌∙◌, subst}
use Rattle.std.specs.Global.{Vec}
use Rattle.ml_lists.specs.Member.{IsMember}
use Rattle.ml_lists.proofs.Member.{member-map, place-member}
use Rattle.ml_labelled.specs.declared.labelled.CubeEdge.{CubeEdge}
use Rattle.ml_labelled.specs.private.Views.{edges_in, rows_of}
use Rattle.ml_labelled.proofs.Retargeted.{rows_all, written_back}
use Rattle.ml_labelled.proofs.reaching.retarget_all.Goals as goal

pub retarget-requires : goal.retarget-requires
retarget-requires c = λ e m.
    let l = c.loop-row in
    let i = l.row-index in
    let x = c.row-item.result in
    let old = c.args.rows.now.items in
    let long = l.invariant.as_long in
    let below = c.loop-row-test.true in
    let row = get_or old i x in
    c.requires (edges_in row) e (member-map edges_in row old (place-member old i x (omega arith)))
    (subst (λ (y : Vec CubeEdge). IsMember e (edges_in y)) (l.invariant.ahead i x (omega arith)) m)

pub returns : goal.returns
returns c =
    let l = c.loop-row in
    let old = c.args.rows.now.items in
    let past : length l.row-items ≤ l.row-index = omega arith in
    ap rows_of
    (written_back c.args.rows.now.len l.row-items old (let ok = c.args.rows.now.ok.0 in omega arith) l.invariant.as_long)
    ∙ rows_all c.args.numbers.now l.row-index old l.row-items past l.invariant
