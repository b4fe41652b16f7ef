use Rattle.std.proofs.Common.{ℕ, ◌<◌}
use Rattle.ml_graph.specs.Graph.{node_at}
use Rattle.ml_witness.specs.private.Claims.{SquareIsKept}
use Rattle.ml_witness.proofs.checking.squares_lead_along.Given as goal

abbrev pub invariant-loop-n : goal.invariant-loop-n
invariant-loop-n l = (k : ℕ) → k < l.n → SquareIsKept l.graph l.ranks l.edge k (node_at l.graph k)
