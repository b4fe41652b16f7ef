use Rattle.ml_refute_check.proofs.Accepted as proved
use Rattle.ml_refute_check.proofs.laws.one_document.Goals as goal

pub returns : goal.returns
returns c = record { some = proved.some_document; once = proved.one_document }
