use Rattle.std.proofs.Common.{◌≡◌, ◌++◌, map, take}
use Rattle.ml_history.specs.private.Forest.{lies_at}
use Rattle.ml_history.specs.Stacks.{stacked}
use Rattle.ml_history.proofs.tree.vertices.push_own.Given as goal

abbrev pub invariant-loop-state : goal.invariant-loop-state
invariant-loop-state l = map stacked l.stacks.items
    ≡ map stacked l.initial.stacks.items ++ map (lies_at l.stack) (take l.state-index l.state-items)
