use Rattle.std.proofs.Common.{◌≡◌, Some, slice_get, take}
use Rattle.ml_emptiness.specs.Systems.{moves_of, table_of}
use Rattle.ml_emptiness.specs.private.Found.{IsPartlyFound}
use Rattle.ml_emptiness.specs.private.Pairs.{IsLeftBy}
use Rattle.ml_emptiness.proofs.pairs.leave.Given as goal

abbrev pub invariant-loop-step : goal.invariant-loop-step
invariant-loop-step l =
    IsPartlyFound l.both.letters.now (table_of l.both.system.now) l.found l.k
    × (slice_get l.found.pairs.keys l.k ≡ Some l.pair)
    × IsLeftBy l.both.letters.now l.found.pairs.keys l.found.arcs.items l.k l.pair (take l.step-index (moves_of (table_of l.both.system.now) l.pair.state))
