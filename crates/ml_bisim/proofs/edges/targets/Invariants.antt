use Rattle.std.proofs.Common.{◌≡◌, map, take}
use Rattle.ml_bisim.proofs.edges.targets.Given as goal

abbrev pub invariant-loop-edge : goal.invariant-loop-edge
invariant-loop-edge l = l.targets.items ≡ map (λ e. e.target) (take l.edge-index l.structure.edges)
