use Rattle.std.proofs.Common.{take}
use Rattle.ml_history.specs.private.Forest.{Empty}
use Rattle.ml_history.specs.private.TreeStep.{targets, moved, seen_by, Laid}
use Rattle.ml_history.specs.private.Vertices.{joined}
use Rattle.ml_history.proofs.tree.walk.+walk.Given as goal

abbrev pub invariant-loop-vertex : goal.invariant-loop-vertex
invariant-loop-vertex l =
    Laid (seen_by l.initial.seen) l.initial.full.items
    (moved l.used (targets l.moves) Empty (joined (take l.vertex-index l.siblings))) (joined l.row.items)
    (seen_by l.seen) l.full.items
