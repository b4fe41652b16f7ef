use Rattle.std.proofs.Common.{map}
use Rattle.ml_labelled.specs.private.Views.{edge_of}
use Rattle.ml_labelled.proofs.KeptEdges.{row_trimmed}
use Rattle.ml_labelled.proofs.trimming.trim_row.Goals as goal

pub returns : goal.returns
returns c =
    row_trimmed c.args.guide.now c.args.p (map edge_of c.args.row.now.items) (map edge_of c.sort.new.row.items)
    (map edge_of c.keep_all.new.kept.items) c.sort.ensures c.in_ok-keep_all.ensures
