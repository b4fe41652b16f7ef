use Rattle.std.proofs.Common.{◌≡◌, take}
use Rattle.std.specs.List.{flat_map}
use Rattle.ml_history.specs.private.TreeStep.{targets}
use Rattle.ml_history.proofs.tree.walk.targets_of.Given as goal

abbrev pub invariant-loop-from : goal.invariant-loop-from
invariant-loop-from l = l.found.items ≡ flat_map (targets l.moves l.accepting) (take l.from-index l.own)
