use Rattle.ml_written.proofs.PlacedNames.{propositions_placed}
use Rattle.ml_written.proofs.laws.propositions_have_places.Goals as goal

pub returns-clause-placed : goal.returns-clause-placed
returns-clause-placed c = propositions_placed
