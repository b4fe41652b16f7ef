use Rattle.ml_realize_text.proofs.OneAnswer as document
use Rattle.ml_realize_text.proofs.laws.rules_rise.Goals as goal

pub returns : goal.returns
returns c = document.rules_rise
