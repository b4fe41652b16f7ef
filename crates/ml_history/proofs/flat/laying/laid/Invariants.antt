use Rattle.std.proofs.Common.{map, take}
use Rattle.ml_history.specs.Stacks.{stacked}
use Rattle.ml_history.specs.private.Arrays.{AreLaidOut}
use Rattle.ml_history.proofs.flat.laying.laid.Given as goal

abbrev pub invariant-loop-item : goal.invariant-loop-item
invariant-loop-item l = AreLaidOut l.states.items l.starts.items l.names.items (map stacked (take l.item-index l.all))
