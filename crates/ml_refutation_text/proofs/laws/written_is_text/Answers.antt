use Rattle.ml_refutation_text.proofs.WrittenTexts as proved
use Rattle.ml_refutation_text.proofs.laws.written_is_text.Goals as goal

pub returns : goal.returns
returns c = proved.written_is_text
