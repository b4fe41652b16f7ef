use Rattle.ml_ask.specs.private.Steps.{IsRefuted}
use Rattle.ml_ask.proofs.leaving.leave_out.Given as goal

abbrev pub invariant-loop-number : goal.invariant-loop-number
invariant-loop-number l = IsRefuted l.asked l.refuted
