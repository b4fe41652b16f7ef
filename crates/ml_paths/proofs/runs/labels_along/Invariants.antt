use Rattle.std.proofs.Common.{◌≡◌}
use Rattle.ml_paths.specs.private.Built.{letter_of, pairs_of}
use Rattle.ml_paths.proofs.runs.labels_along.Given as goal

abbrev pub invariant-loop-place : goal.invariant-loop-place
invariant-loop-place l = l.labels.items ≡ pairs_of (letter_of l.structure l.states) l.place
