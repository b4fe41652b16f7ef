use Rattle.std.proofs.Common.{suc, ◌≡◌, ◌+◌, map, take, arith, subst}
use Rattle.ml_labelled.specs.private.Views.{edge_of}
use Rattle.ml_labelled.proofs.MergedStates.{row_all, row_more}
use Rattle.ml_labelled.proofs.merging.are_same.Goals as goal

pub loop-i-preserved : goal.loop-i-preserved
loop-i-preserved c =
    let xs = c.args.row.now in
    let ys = c.args.other.now in
    let long = c.if-row-other.false in
    let low = c.loop-i-test.true in
    let next : suc c.loop-i.i ≡ c.loop-i.i + 1 = omega arith in
    subst (λ n. take n (map edge_of xs) ≡ take n (map edge_of ys)) next
    (row_more xs ys c.loop-i.i c.index-row-i.result c.index-other-i.result low (omega (arith, long, low)) c.index-row-i.is
    c.index-other-i.is (c.is_same.ensures c.if-not-is_same.false) c.loop-i.invariant)

pub returns : goal.returns
returns c = λ _. row_all c.args.row.now c.args.other.now c.loop-i.i c.if-row-other.false c.loop-i-test.false c.loop-i.invariant
