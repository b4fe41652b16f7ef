use Rattle.std.proofs.Common.{ℕ, [], ◌<◌, get_or}
use Rattle.ml_lists.specs.Member.{IsMember}
use Rattle.ml_labelled.specs.Labelled.{Edge}
use Rattle.ml_labelled.specs.private.Trimming.{IsGuided}
use Rattle.ml_labelled.specs.private.Views.{rows_of}
use Rattle.ml_labelled.proofs.guide.Guide.guides.Given as goal

abbrev pub invariant-loop-p : goal.invariant-loop-p
invariant-loop-p l =
    (k : ℕ) (e : Edge) → k < l.p → IsMember e (get_or (rows_of l.rows) k []) → IsGuided l.self k e
