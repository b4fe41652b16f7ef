use Rattle.std.proofs.Common.{◌≡◌, true, replicate}
use Rattle.ml_answers.proofs.document.flags.Given as goal

abbrev pub invariant-loop : goal.invariant-loop
invariant-loop l = l.all.items ≡ replicate l.counter true
