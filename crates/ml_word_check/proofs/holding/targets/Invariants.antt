use Rattle.std.proofs.Common.{◌≡◌, map, take}
use Rattle.ml_word_check.specs.private.Steps.{target_of}
use Rattle.ml_word_check.proofs.holding.targets.Given as goal

abbrev pub invariant-loop-step : goal.invariant-loop-step
invariant-loop-step l = l.next.items ≡ map target_of (take l.step-index l.steps)
