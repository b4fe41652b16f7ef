use Rattle.std.proofs.Common.{ℕ, [], ◌<◌, length, get_or}
use Rattle.ml_lists.specs.Member.{IsMember}
use Rattle.ml_labelled.specs.Labelled.{Edge, IsEdge}
use Rattle.ml_labelled.specs.private.Views.{rows_of}
use Rattle.ml_labelled.proofs.fitting.rows_fit.Given as goal

abbrev pub invariant-loop-row : goal.invariant-loop-row
invariant-loop-row l =
    (k : ℕ) → k < l.row-index → (e : Edge) → IsMember e (get_or (rows_of l.rows) k []) → IsEdge (length l.rows) l.props e
