-- There is a bound for each priority so far.
use Rattle.std.proofs.Common.{◌≡◌, map, take}
use Rattle.ml_progress.specs.Measure.{how_many}
use Rattle.ml_progress.proofs.scale.bounds.Given as goal

abbrev pub invariant-loop-priority : goal.invariant-loop-priority
invariant-loop-priority l = l.bounds.items ≡ map (how_many l.game) (take l.priority-index l.priorities)
