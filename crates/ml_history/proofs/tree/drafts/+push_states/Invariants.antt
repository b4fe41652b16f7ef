use Rattle.std.proofs.Common.{◌≡◌, ◌++◌, take}
use Rattle.ml_history.specs.private.Forest.{states}
use Rattle.ml_history.specs.private.Vertices.{joined}
use Rattle.ml_history.proofs.tree.drafts.+push_states.Given as goal

abbrev pub invariant-loop-draft : goal.invariant-loop-draft
invariant-loop-draft l = l.all.items ≡ l.initial.all.items ++ states (joined (take l.draft-index l.siblings))
