use Rattle.ml_buchi.proofs.EdgesTaken.{letters_stay}
use Rattle.ml_buchi.proofs.laws.letters_stay.Goals as goal

pub returns : goal.returns
returns c = letters_stay
