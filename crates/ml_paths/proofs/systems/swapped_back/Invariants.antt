use Rattle.std.proofs.Common.{◌≡◌, map, take}
use Rattle.ml_paths.specs.private.Systems.{swapped}
use Rattle.ml_paths.proofs.systems.swapped_back.Given as goal

abbrev pub invariant-loop-state : goal.invariant-loop-state
invariant-loop-state l = l.back.items ≡ map (swapped l.start) (take l.state-index l.states)
