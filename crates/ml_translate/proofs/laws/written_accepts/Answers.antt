use Rattle.ml_translate.proofs.WrittenTexts as written
use Rattle.ml_translate.proofs.laws.written_accepts.Goals as goal

pub returns : goal.returns
returns c = written.written_accepts
