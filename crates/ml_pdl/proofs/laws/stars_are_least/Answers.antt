use Rattle.ml_pdl.proofs.StarRelations as lemma
use Rattle.ml_pdl.proofs.laws.stars_are_least.Goals as goal

pub returns : goal.returns
returns c = lemma.stars_are_least
