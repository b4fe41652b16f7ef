use Rattle.std.proofs.Common.{map}
use Rattle.ml_labelled.specs.private.Views.{edge_of}
use Rattle.ml_labelled.proofs.KeptEdges.{kept_pushed, pushed_edge}
use Rattle.ml_labelled.proofs.trimming.keep.Goals as goal

pub returns : goal.returns
returns c =
    kept_pushed c.args.guide.now c.args.p (edge_of c.args.edge) (map edge_of c.args.kept.now.items)
    (map edge_of c.push.new.self.items)
    (pushed_edge c.args.guide.now c.args.p c.args.kept.now.items c.push.new.self.items c.args.edge c.flag_of-accepting.result
    c.in_ok-push.ensures.items c.flag_of-accepting.ensures)
