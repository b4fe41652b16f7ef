use Rattle.ml_paths.specs.private.Letters.{AreNumbered}
use Rattle.ml_paths.proofs.letters.numbered.Given as goal

abbrev pub invariant-loop-state : goal.invariant-loop-state
invariant-loop-state l = AreNumbered l.graph l.structure l.state l.labels.keys l.numbers.items
