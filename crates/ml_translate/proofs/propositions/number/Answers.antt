use Rattle.std.proofs.Common.{sym}
use Rattle.ml_translate.proofs.PropositionNumbers.{none_told, place_told}
use Rattle.ml_translate.proofs.propositions.number.Goals as goal

pub returns-in-Some : goal.returns-in-Some
returns-in-Some c = place_told c.args.props.now.keys c.args.name.now c.in-Some.at (sym c.in-Some.ensures.index)

pub returns-in-None : goal.returns-in-None
returns-in-None c = λ n. none_told c.args.props.now.keys c.args.name.now n (sym c.in-None.ensures.found)
