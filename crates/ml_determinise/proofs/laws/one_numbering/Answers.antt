use Rattle.ml_determinise.proofs.OneNumbering.{one_numbering}
use Rattle.ml_determinise.proofs.laws.one_numbering.Goals as goal

pub returns : goal.returns
returns c = one_numbering
