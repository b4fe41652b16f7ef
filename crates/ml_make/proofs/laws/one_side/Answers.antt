use Rattle.ml_make.proofs.Answered as answered
use Rattle.ml_make.proofs.laws.one_side.Goals as goal

pub returns-clause-right : goal.returns-clause-right
returns-clause-right c = answered.answers_right

pub returns-clause-never_both : goal.returns-clause-never_both
returns-clause-never_both c = answered.never_both
