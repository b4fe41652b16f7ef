use Rattle.ml_machine_text.proofs.RightOutcomes as lemma
use Rattle.ml_machine_text.proofs.laws.found_holds.Goals as goal

pub returns-clause-made : goal.returns-clause-made
returns-clause-made c = lemma.made_holds

pub returns-clause-defeated : goal.returns-clause-defeated
returns-clause-defeated c = lemma.defeated_holds
