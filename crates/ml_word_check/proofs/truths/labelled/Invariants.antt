use Rattle.std.proofs.Common.{◌≡◌, map, take}
use Rattle.ml_base.specs.Structure.{lists}
use Rattle.ml_word_check.proofs.truths.labelled.Given as goal

abbrev pub invariant-loop-state : goal.invariant-loop-state
invariant-loop-state l = l.truths.items ≡ map (λ s. lists l.structure s l.name) (take l.state-index l.states)
