use Rattle.ml_ask_text.proofs.SomeTold.{some_told}
use Rattle.ml_ask_text.proofs.laws.something_told.Goals as goal

pub returns : goal.returns
returns c = some_told
