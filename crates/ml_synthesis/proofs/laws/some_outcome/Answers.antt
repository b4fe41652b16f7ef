use Rattle.ml_synthesis.proofs.SomeOutcomes.{never_both, some_outcome}
use Rattle.ml_synthesis.proofs.laws.some_outcome.Goals as goal

pub returns-clause-some : goal.returns-clause-some
returns-clause-some c = some_outcome

pub returns-clause-never_both : goal.returns-clause-never_both
returns-clause-never_both c = never_both
