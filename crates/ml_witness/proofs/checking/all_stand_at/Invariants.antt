use Rattle.std.proofs.Common.{ℕ, ◌<◌}
use Rattle.ml_graph.specs.Graph.{node_at}
use Rattle.ml_witness.specs.private.Claims.{StandsBeside, rank_of}
use Rattle.ml_witness.proofs.checking.all_stand_at.Given as goal

abbrev pub invariant-loop-n : goal.invariant-loop-n
invariant-loop-n l =
    (k : ℕ) → k < l.n → 0 < rank_of l.graph l.ranks l.state k
    → StandsBeside l.graph l.structure l.ranks l.state k (node_at l.graph k)
