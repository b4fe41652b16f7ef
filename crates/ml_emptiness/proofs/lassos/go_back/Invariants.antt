use Rattle.std.proofs.Common.{◌<◌, length, reverse}
use Rattle.ml_emptiness.specs.Systems.{table_of}
use Rattle.ml_emptiness.specs.private.Pairs.{IsWayBetween}
use Rattle.ml_emptiness.proofs.lassos.go_back.Given as goal

abbrev pub invariant-loop-at : goal.invariant-loop-at
invariant-loop-at l =
    (l.at < length l.pairs)
    × IsWayBetween l._both.letters.now (table_of l._both.system.now) l.pairs l.at (reverse l.trail.states.items)
    (reverse l.trail.letters.items) l.to

abbrev pub decreases-loop-at : goal.decreases-loop-at
decreases-loop-at l = l.at
