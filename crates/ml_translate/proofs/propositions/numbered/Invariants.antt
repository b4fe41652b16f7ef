use Rattle.ml_translate.proofs.PropositionNumbers.{AreNumbersTo}
use Rattle.ml_translate.proofs.propositions.numbered.Given as goal

abbrev pub invariant-loop-name : goal.invariant-loop-name
invariant-loop-name l = AreNumbersTo l.name-index l.names l.props.keys l.numbers.items
