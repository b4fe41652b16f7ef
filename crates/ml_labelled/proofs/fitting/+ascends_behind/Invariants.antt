use Rattle.std.proofs.Common.{length}
use Rattle.ml_labelled.proofs.fitting.+ascends_behind.Given as goal

abbrev pub decreases-ascends_behind : goal.decreases-ascends_behind
decreases-ascends_behind l = length l.cube.now
