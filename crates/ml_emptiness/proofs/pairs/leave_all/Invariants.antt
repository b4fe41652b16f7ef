use Rattle.ml_emptiness.specs.Systems.{table_of}
use Rattle.ml_emptiness.specs.private.Found.{IsPartlyFound}
use Rattle.ml_emptiness.proofs.pairs.leave_all.Given as goal

abbrev pub invariant-loop-k : goal.invariant-loop-k
invariant-loop-k l = IsPartlyFound l.both.letters.now (table_of l.both.system.now) l.found l.k
