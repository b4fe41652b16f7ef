-- The best one is the extreme one of the vertices so far.
use Rattle.ml_progress.proofs.CutLevels.{Extreme}
use Rattle.ml_progress.proofs.lifting.extreme_vertex.Given as goal

abbrev pub invariant-loop-vertex : goal.invariant-loop-vertex
invariant-loop-vertex l = Extreme l.least l.cut l.table.rows l.vertices l.vertex-index l.best
