use Rattle.std.proofs.Common.{ℕ, [], ◌<◌, get_or}
use Rattle.ml_labelled.specs.private.Following.{StateFollowed}
use Rattle.ml_labelled.specs.private.Views.{rows_of}
use Rattle.ml_labelled.proofs.following.Ranks.follows.Given as goal

abbrev pub invariant-loop-p : goal.invariant-loop-p
invariant-loop-p l =
    (k : ℕ) → k < l.p → StateFollowed l.self k (get_or (rows_of l.rows) k []) (rows_of l.others)
