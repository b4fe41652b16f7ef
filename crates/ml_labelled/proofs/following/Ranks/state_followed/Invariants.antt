use Rattle.std.proofs.Common.{ℕ, [], ◌<◌, get_or, map}
use Rattle.ml_labelled.specs.private.Following.{PairFollows}
use Rattle.ml_labelled.specs.private.Views.{edge_of, rows_of}
use Rattle.ml_labelled.proofs.following.Ranks.state_followed.Given as goal

abbrev pub invariant-loop-x : goal.invariant-loop-x
invariant-loop-x l =
    (k : ℕ) → k < l.x → PairFollows l.self l.p k (map edge_of l.edges) (get_or (rows_of l.others) k [])
