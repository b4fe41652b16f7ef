use Rattle.ml_progress.proofs.OneMeasured.{one_least, one_measured}
use Rattle.ml_progress.proofs.SomeMeasures.{some_measures}
use Rattle.ml_progress.proofs.laws.some_measures.Goals as goal

pub returns-clause-some : goal.returns-clause-some
returns-clause-some c = some_measures

pub returns-clause-least : goal.returns-clause-least
returns-clause-least c = one_least

pub returns-clause-one : goal.returns-clause-one
returns-clause-one c = one_measured
