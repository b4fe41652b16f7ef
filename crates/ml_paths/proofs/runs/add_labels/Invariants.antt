use Rattle.std.proofs.Common.{◌≡◌, ◌++◌, take}
use Rattle.ml_paths.specs.private.Built.{pairs_at}
use Rattle.ml_paths.proofs.runs.add_labels.Given as goal

abbrev pub invariant-loop-name : goal.invariant-loop-name
invariant-loop-name l = l.labels.items ≡ l.initial.labels.items ++ pairs_at l.place (take l.name-index l.names)
