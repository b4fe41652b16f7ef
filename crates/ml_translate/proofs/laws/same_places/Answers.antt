use Rattle.ml_translate.proofs.SamePlaces as same
use Rattle.ml_translate.proofs.laws.same_places.Goals as goal

pub returns : goal.returns
returns c = same.same_places
