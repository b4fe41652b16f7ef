use Rattle.std.proofs.Common.{◌≡◌, map, take}
use Rattle.ml_bisim.specs.Quotient.{class_of}
use Rattle.ml_bisim.proofs.choice.classes_of.Given as goal

abbrev pub invariant-loop-state : goal.invariant-loop-state
invariant-loop-state l = l.classes.items ≡ map (class_of l.class) (take l.state-index l.states)
