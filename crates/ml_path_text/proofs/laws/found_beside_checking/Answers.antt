use Rattle.ml_path_text.proofs.BesideChecking.{found_where_it_fails, found_where_it_holds}
use Rattle.ml_path_text.proofs.laws.found_beside_checking.Goals as goal

pub returns-clause-holds : goal.returns-clause-holds
returns-clause-holds c = found_where_it_holds

pub returns-clause-fails : goal.returns-clause-fails
returns-clause-fails c = found_where_it_fails
