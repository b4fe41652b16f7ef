use Rattle.ml_buchi.proofs.EdgesTaken.{letters_lead}
use Rattle.ml_buchi.proofs.laws.letters_lead.Goals as goal

pub returns : goal.returns
returns c = letters_lead
