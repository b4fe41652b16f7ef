use Rattle.ml_kripke.proofs.OneText.{one_text}
use Rattle.ml_kripke.proofs.laws.one_text.Goals as goal

pub returns : goal.returns
returns c = one_text
