use Rattle.std.proofs.Common.{◌≡◌, length, take}
use Rattle.ml_trace.specs.Stack.{has}
use Rattle.ml_history.specs.private.TreeStep.{flagged}
use Rattle.ml_history.proofs.names.flags_of.Given as goal

abbrev pub invariant-loop-name : goal.invariant-loop-name
invariant-loop-name l = (length l.flags.items ≡ l.bound)
    × (flagged l.flags.items ≡ (λ y. has y (take l.name-index l.names)))
