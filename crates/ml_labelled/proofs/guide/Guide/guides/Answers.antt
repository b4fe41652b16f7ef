use Rattle.std.proofs.Common.{List, map, sym, subst}
use Rattle.ml_lists.specs.Member.{IsMember}
use Rattle.ml_labelled.specs.declared.labelled.CubeEdge.{CubeEdge}
use Rattle.ml_labelled.specs.private.Views.{edge_of}
use Rattle.ml_labelled.proofs.KeptEdges.{guided_all, guided_more}
use Rattle.ml_labelled.proofs.guide.Guide.guides.Goals as goal

pub loop-p-preserved : goal.loop-p-preserved
loop-p-preserved c =
    guided_more c.args.self.now c.args.rows.now c.loop-p.p c.index-rows-p.result c.loop-p-test.true c.index-rows-p.is
    (λ e m.
    c.guides_row.ensures c.if-not-guides_row.false e
    (subst (λ (es : List CubeEdge). IsMember e (map edge_of es)) (sym c.deref.ensures.value) m))
    c.loop-p.invariant

pub returns : goal.returns
returns c = λ _. guided_all c.args.self.now c.args.rows.now c.loop-p.p c.loop-p-test.false c.loop-p.invariant
