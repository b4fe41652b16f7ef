use Rattle.std.proofs.Common.{◌≡◌, map, take}
use Rattle.ml_bisim.specs.private.Merged.{between_classes}
use Rattle.ml_bisim.proofs.merging.class_edges.Given as goal

abbrev pub invariant-loop-edge : goal.invariant-loop-edge
invariant-loop-edge l = l.edges.items ≡ map (between_classes l.class) (take l.edge-index l.structure.edges)
