use Rattle.ml_refutation_text.proofs.RefutationTexts as proved
use Rattle.ml_refutation_text.proofs.laws.one_refutation.Goals as goal

pub returns : goal.returns
returns c = proved.one_refutation
