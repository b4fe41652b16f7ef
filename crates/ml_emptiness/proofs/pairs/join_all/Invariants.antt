use Rattle.std.proofs.Common.{take}
use Rattle.ml_emptiness.specs.Systems.{table_of}
use Rattle.ml_emptiness.specs.private.Found.{AreJoined, IsPartlyFound}
use Rattle.ml_emptiness.proofs.pairs.join_all.Given as goal

abbrev pub invariant-loop-transition : goal.invariant-loop-transition
invariant-loop-transition l =
    IsPartlyFound l._both.letters.now (table_of l._both.system.now) l.found l.k
    × AreJoined l.k l.step (take l.transition-index l.transitions) l.fn.found l.found
