use Rattle.std.proofs.Common.{◌≡◌, ◌++◌}
use Rattle.ml_paths.specs.private.Built.{pairs_of}
use Rattle.ml_machine_text.specs.private.Letters.{letter_at}
use Rattle.ml_machine_text.proofs.labels.labels_of.Given as goal

abbrev pub invariant-loop-place : goal.invariant-loop-place
invariant-loop-place l = l.labels.items ≡ pairs_of (letter_at (l.inputs ++ l.outputs) l.valuations) l.place
