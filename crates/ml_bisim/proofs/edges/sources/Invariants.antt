use Rattle.std.proofs.Common.{◌≡◌, map, take}
use Rattle.ml_bisim.proofs.edges.sources.Given as goal

abbrev pub invariant-loop-edge : goal.invariant-loop-edge
invariant-loop-edge l = l.sources.items ≡ map (λ e. e.source) (take l.edge-index l.structure.edges)
