use Rattle.ml_ask_text.proofs.ToldAlike.{told_alike}
use Rattle.ml_ask_text.proofs.laws.told_alike.Goals as goal

pub returns : goal.returns
returns c = told_alike
