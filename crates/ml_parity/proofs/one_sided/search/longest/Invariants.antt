-- The numbers are attained, and each turn leaves less room below the number of vertices.
use Rattle.ml_parity.specs.private.HeightSteps.{AreAttained, room}
use Rattle.ml_parity.proofs.one_sided.search.longest.Given as goal

abbrev pub invariant-loop-numbers : goal.invariant-loop-numbers
invariant-loop-numbers l = AreAttained l.graph l.priority l.numbers.items

abbrev pub decreases-loop-numbers : goal.decreases-loop-numbers
decreases-loop-numbers l = room l.graph.size l.numbers.items
