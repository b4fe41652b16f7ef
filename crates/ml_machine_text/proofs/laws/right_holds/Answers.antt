use Rattle.ml_machine_text.proofs.RightOutcomes as lemma
use Rattle.ml_machine_text.proofs.laws.right_holds.Goals as goal

pub returns : goal.returns
returns c = lemma.right_holds
