use Rattle.std.proofs.Common.{◌<◌, length, IfSome}
use Rattle.ml_ask.proofs.searching.longest.Given as goal

abbrev pub invariant-loop-number : goal.invariant-loop-number
invariant-loop-number l = IfSome l.longest (λ n. n < length l.asked.specification.now.items.items)
