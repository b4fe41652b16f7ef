use Rattle.std.proofs.Common.{◌≡◌, false, take}
use Rattle.ml_trace.specs.Stack.{has}
use Rattle.ml_refute_check.proofs.names.has.Given as goal

abbrev pub invariant-loop-other : goal.invariant-loop-other
invariant-loop-other l = has l.name (take l.other-index l.stack) ≡ false
