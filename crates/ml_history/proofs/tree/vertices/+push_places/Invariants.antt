use Rattle.std.proofs.Common.{◌≡◌, ◌++◌, map, take}
use Rattle.ml_history.specs.private.Forest.{places}
use Rattle.ml_history.specs.Stacks.{stacked}
use Rattle.ml_history.specs.private.TreeWalks.{behind}
use Rattle.ml_history.specs.private.Vertices.{joined}
use Rattle.ml_history.proofs.tree.vertices.+push_places.Given as goal

abbrev pub invariant-loop-vertex : goal.invariant-loop-vertex
invariant-loop-vertex l =
    map stacked l.stacks.items ≡ map stacked l.initial.stacks.items ++ map (behind l.path)
    (places (joined (take l.vertex-index l.siblings)))
