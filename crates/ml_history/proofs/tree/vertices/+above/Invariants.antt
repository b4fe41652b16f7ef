use Rattle.std.proofs.Common.{◌≡◌, take}
use Rattle.ml_history.specs.private.Forest.{names}
use Rattle.ml_history.specs.HistoryStep.{above}
use Rattle.ml_history.specs.private.Vertices.{joined}
use Rattle.ml_history.proofs.tree.vertices.+above.Given as goal

abbrev pub invariant-loop-vertex : goal.invariant-loop-vertex
invariant-loop-vertex l = l.most ≡ above (names (joined (take l.vertex-index l.siblings)))
