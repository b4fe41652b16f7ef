use Rattle.std.proofs.Common.{◌≡◌, map, take}
use Rattle.ml_bisim.proofs.edges.actions.Given as goal

abbrev pub invariant-loop-edge : goal.invariant-loop-edge
invariant-loop-edge l = l.actions.items ≡ map (λ e. e.action) (take l.edge-index l.structure.edges)
