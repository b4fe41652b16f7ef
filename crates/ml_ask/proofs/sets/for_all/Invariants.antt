use Rattle.std.proofs.Common.{◌≡◌, replicate}
use Rattle.ml_ask.proofs.sets.for_all.Given as goal

abbrev pub invariant-loop : goal.invariant-loop
invariant-loop l = l.all.items ≡ replicate l.counter l.taken
