use Rattle.ml_spec.proofs.ItemPlaces.{items_apart}
use Rattle.ml_spec.proofs.laws.items_apart.Goals as goal

pub returns : goal.returns
returns c = record { apart = items_apart }
