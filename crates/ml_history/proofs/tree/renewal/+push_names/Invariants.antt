use Rattle.std.proofs.Common.{◌≡◌, ◌++◌, take}
use Rattle.ml_history.specs.private.Forest.{names}
use Rattle.ml_history.specs.private.Vertices.{joined}
use Rattle.ml_history.proofs.tree.renewal.+push_names.Given as goal

abbrev pub invariant-loop-draft : goal.invariant-loop-draft
invariant-loop-draft l = l.all.items ≡ l.initial.all.items ++ names (joined (take l.draft-index l.siblings))
