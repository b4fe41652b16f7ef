use Rattle.ml_pdl.proofs.StarRelations as lemma
use Rattle.ml_pdl.proofs.laws.repetitions_are_greatest.Goals as goal

pub returns : goal.returns
returns c = lemma.repetitions_are_greatest
