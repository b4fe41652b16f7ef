use Rattle.ml_ctl.proofs.Negations.{all_are_not_some, some_are_not_all}
use Rattle.ml_ctl.proofs.laws.quantifiers_have_duals.Goals as goal

pub returns-clause-all : goal.returns-clause-all
returns-clause-all c = all_are_not_some

pub returns-clause-some : goal.returns-clause-some
returns-clause-some c = some_are_not_all
