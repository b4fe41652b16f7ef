use Rattle.std.proofs.Common.{◌≡◌, map, take}
use Rattle.ml_history.specs.Stacks.{stacked}
use Rattle.ml_history.proofs.flat.History.stacks.Given as goal

abbrev pub invariant-loop-i : goal.invariant-loop-i
invariant-loop-i l = map stacked l.all.items ≡ take l.i l.self
