use Rattle.ml_determinise.proofs.Numberings.{never_both, some_numbering}
use Rattle.ml_determinise.proofs.laws.numbered_or_passed.Goals as goal

pub returns-clause-one : goal.returns-clause-one
returns-clause-one c = some_numbering

pub returns-clause-never_both : goal.returns-clause-never_both
returns-clause-never_both c = never_both
