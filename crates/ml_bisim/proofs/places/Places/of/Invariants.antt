use Rattle.ml_bisim.proofs.Links.{Linked}
use Rattle.ml_bisim.proofs.places.Places.of.Given as goal

abbrev pub invariant-loop-number : goal.invariant-loop-number
invariant-loop-number l = Linked l.numbers l.bound l.number-index l.last.items l.before.items
