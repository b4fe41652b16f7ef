use Rattle.ml_realize_text.proofs.WrittenDocuments as document
use Rattle.ml_realize_text.proofs.laws.written_reads_back.Goals as goal

pub returns : goal.returns
returns c = document.written_reads_back
