use Rattle.std.proofs.Common.{ℕ, ◌≡◌, ◌<◌, ◌≤◌, [], get_or, length}
use Rattle.ml_graph.specs.Graph.{priority_at}
use Rattle.ml_sequent.specs.declared.parts.Stage.TheVariants.{New}
use Rattle.ml_sequent.specs.private.ConnectedParts.{stage_of, walk_left, IsPart}
use Rattle.ml_sequent.proofs.cycles.least_loop.Given as goal

abbrev pub invariant-loop-node : goal.invariant-loop-node
invariant-loop-node l = record {
  size : length l.parts.stages ≡ length l.fn.parts.stages;
  part : IsPart l.graph l.choice l.priority l.nodes l.parts l.best;
  over : l.parts.frames ≡ [];
  met : (k : ℕ) → k < l.node-index → l.priority ≤ priority_at l.graph (get_or l.nodes k 0) → stage_of l.parts (get_or l.nodes k 0) ≡ New → ⊥;
}

abbrev pub invariant-loop-parts : goal.invariant-loop-parts
invariant-loop-parts l = record {
  size : length l.parts.stages ≡ length l.fn.parts.stages;
  part : IsPart l.graph l.choice l.priority l.nodes l.parts l.best;
  met : (k : ℕ) → k ≤ l.node-index → l.priority ≤ priority_at l.graph (get_or l.nodes k 0) → stage_of l.parts (get_or l.nodes k 0) ≡ New → ⊥;
}

abbrev pub decreases-loop-parts : goal.decreases-loop-parts
decreases-loop-parts l = walk_left l.parts
