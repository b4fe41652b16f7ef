use Rattle.std.proofs.Common.{take}
use Rattle.ml_emptiness.specs.Systems.{table_of}
use Rattle.ml_emptiness.specs.private.Pairs.{AreStepped}
use Rattle.ml_emptiness.proofs.lassos.along.Given as goal

abbrev pub invariant-loop-arc : goal.invariant-loop-arc
invariant-loop-arc l =
    AreStepped l.both.letters.now (table_of l.both.system.now) l.pairs (take l.arc-index l.arcs) l.trail.states.items l.trail.letters.items
