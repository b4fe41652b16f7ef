use Rattle.std.proofs.Common.{◌≡◌, reverse, length}
use Rattle.ml_sequent.specs.private.ConnectedParts.{folded}
use Rattle.ml_sequent.proofs.parts.fold_frames.Given as goal

abbrev pub invariant-loop-frame : goal.invariant-loop-frame
invariant-loop-frame l = folded l.place (reverse l.frames.items) ≡ folded l.place (reverse l.initial.frames.items)

abbrev pub decreases-loop-frame : goal.decreases-loop-frame
decreases-loop-frame l = length l.frames.items
