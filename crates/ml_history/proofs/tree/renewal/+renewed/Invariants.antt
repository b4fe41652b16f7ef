use Rattle.std.proofs.Common.{◌≡◌, get_or, take}
use Rattle.ml_history.specs.private.TreeStep.{renewed}
use Rattle.ml_history.specs.private.Vertices.{joined}
use Rattle.ml_history.proofs.tree.renewal.+renewed.Given as goal

abbrev pub invariant-loop-draft : goal.invariant-loop-draft
invariant-loop-draft l = joined l.row.items ≡ renewed (λ y. get_or l.numbers y 0) (joined (take l.draft-index l.drafts))
