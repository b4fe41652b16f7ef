use Rattle.std.proofs.Common.{◌≡◌, filter, take}
use Rattle.ml_graph.specs.Graph.{node_at}
use Rattle.ml_sequent.specs.Spread.{is_diamond}
use Rattle.ml_sequent.proofs.questions.diamonds_on.Given as goal

abbrev pub invariant-loop-place : goal.invariant-loop-place
invariant-loop-place l = l.diamonds.items ≡ filter (λ n. is_diamond (node_at l.graph n)) (take l.place l.trail.nodes)
