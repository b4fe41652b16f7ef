use Rattle.std.proofs.Common.{◌≡◌, true, IfSome}
use Rattle.ml_spec.specs.Questions.{is_in}
use Rattle.ml_ask.proofs.narrowing.smallest_unmet.Given as goal

abbrev pub invariant-loop-number : goal.invariant-loop-number
invariant-loop-number l = IfSome l.smallest (λ n. is_in l.asked.among.now n ≡ true)
