use Rattle.ml_driver.proofs.TranslationAnswers.{translated}
use Rattle.ml_driver.proofs.laws.written_is_translated.Goals as goal

pub returns : goal.returns
returns c = translated
