use Rattle.ml_refutation_text.proofs.OneWritten as proved
use Rattle.ml_refutation_text.proofs.laws.one_written_text.Goals as goal

pub returns : goal.returns
returns c = record { some = proved.written_is_written; once = proved.one_written_text; read = proved.written_is_read }
