use Rattle.std.proofs.Common.{length, map}
use Rattle.ml_labelled.specs.private.Trimming.{AreKept}
use Rattle.ml_labelled.specs.private.Views.{edge_of}
use Rattle.ml_labelled.proofs.trimming.keep_all.Given as goal

abbrev pub invariant-loop-edge : goal.invariant-loop-edge
invariant-loop-edge l =
    AreKept l.guide l.p (map edge_of l.fn.row.items) (map edge_of l.row.items) (map edge_of l.kept.items)

abbrev pub decreases-loop-edge : goal.decreases-loop-edge
decreases-loop-edge l = length l.row.items
