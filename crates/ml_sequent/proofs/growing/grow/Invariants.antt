use Rattle.std.proofs.Common.{◌≡◌, ◌-◌, ℕ, List}
use Rattle.ml_graph.specs.Graph.{size}
use Rattle.ml_sequent.specs.private.Trails.{IsUnderway, IsGrown}
use Rattle.ml_sequent.proofs.growing.grow.Given as goal

abbrev pub invariant-loop-i : goal.invariant-loop-i
invariant-loop-i l = record {
  room : l.trail.room ≡ size l.graph;
  grown : IsGrown l.initial.trail.nodes l.trail.nodes;
  search : (C : List ℕ)
      → IsUnderway l.graph l.choice C l.done l.initial.trail.nodes
      → IsUnderway l.graph l.choice C l.i l.trail.nodes;
}

abbrev pub decreases-loop-i : goal.decreases-loop-i
decreases-loop-i l = l.trail.room - l.i
