use Rattle.ml_bisim.specs.private.Merged.{AreClassLabels}
use Rattle.ml_bisim.proofs.merging.class_labels.Given as goal

abbrev pub invariant-loop-state : goal.invariant-loop-state
invariant-loop-state l = AreClassLabels l.structure l.class l.state l.labels.items
