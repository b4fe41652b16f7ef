use Rattle.std.proofs.Common.{map, sym, ap, subst}
use Rattle.ml_labelled.specs.private.Trimming.{AreKept}
use Rattle.ml_labelled.specs.private.Views.{edge_of}
use Rattle.ml_labelled.proofs.KeptEdges.{kept_more, kept_none, popped_edges}
use Rattle.ml_labelled.proofs.trimming.keep_all.Goals as goal

pub loop-edge-init : goal.loop-edge-init
loop-edge-init c =
    let old = map edge_of c.args.row.now.items in
    subst (AreKept c.args.guide.now c.args.p old old) (sym (ap (map edge_of) c.requires))
    (kept_none c.args.guide.now c.args.p old)

pub loop-edge-preserved : goal.loop-edge-preserved
loop-edge-preserved c =
    kept_more c.args.guide.now c.args.p (map edge_of c.args.row.now.items) (map edge_of c.loop-edge.row.items)
    (map edge_of c.pop.new.self.items) (map edge_of c.loop-edge.kept.items) (map edge_of c.keep.new.kept.items)
    (edge_of c.in-Some.edge)
    (popped_edges c.loop-edge.row.items c.pop.new.self.items c.in-Some.edge c.in-Some.ensures.items)
    c.loop-edge.invariant c.in_ok-keep.ensures
