use Rattle.ml_driver.proofs.PathsBeside.{paths_show_what_fails, paths_show_what_holds}
use Rattle.ml_driver.proofs.laws.paths_beside_checking.Goals as goal

pub returns-clause-holds : goal.returns-clause-holds
returns-clause-holds c = paths_show_what_holds

pub returns-clause-fails : goal.returns-clause-fails
returns-clause-fails c = paths_show_what_fails
