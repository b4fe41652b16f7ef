use Rattle.std.proofs.Common.{◌<◌, length, arith, subst}
use Rattle.std.proofs.lemmas.List.{get_or_default}
use Rattle.std.specs.Global.{Vec}
use Rattle.ml_labelled.specs.declared.labelled.CubeEdge.{CubeEdge}
use Rattle.ml_labelled.specs.private.Trimming.{IsTrimmed}
use Rattle.ml_labelled.specs.private.Views.{edges_in}
use Rattle.ml_labelled.proofs.KeptEdges.{trimmed_all, trimmed_more}
use Rattle.ml_labelled.proofs.trimming.trim_all.Goals as goal

pub loop-p-preserved : goal.loop-p-preserved
loop-p-preserved c =
    let g = c.args.guide.now in
    let p = c.loop-p.p in
    let rows = c.loop-p.rows.items in
    let old = c.index_mut.result.now in
    let new = c.trim_row.new.row in
    let long = c.loop-p.invariant.as_long in
    let end = c.len-p-end.ensures in
    let below = c.loop-p-test.true in
    let ok = c.args.rows.now.ok.0 in
    let low : p < length rows = omega arith in
    trimmed_more g c.args.rows.now.items p rows new old low c.loop-p.invariant
    (subst (λ (row : Vec CubeEdge). IsTrimmed g p (edges_in row) (edges_in new)) c.index_mut.ensures.value c.in_ok-trim_row.ensures)
    (λ e. get_or_default rows p e old low)

pub returns : goal.returns
returns c =
    let long = c.loop-p.invariant.as_long in
    let end = c.len-p-end.ensures in
    let past = c.loop-p-test.false in
    let ok = c.args.rows.now.ok.0 in
    trimmed_all c.args.guide.now c.args.rows.now.items c.loop-p.p c.loop-p.rows.items (omega arith) c.loop-p.invariant
