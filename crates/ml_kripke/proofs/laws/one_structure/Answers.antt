use Rattle.ml_kripke.proofs.OneStructure.{one_structure}
use Rattle.ml_kripke.proofs.laws.one_structure.Goals as goal

pub returns : goal.returns
returns c = one_structure
