use Rattle.ml_machine_text.proofs.OneFinding as lemma
use Rattle.ml_machine_text.proofs.laws.one_finding.Goals as goal

pub returns-clause-some : goal.returns-clause-some
returns-clause-some c = lemma.some_finding

pub returns-clause-one : goal.returns-clause-one
returns-clause-one c = lemma.one_finding
