use Rattle.ml_paths.proofs.OnePath as paths
use Rattle.ml_paths.proofs.laws.one_path.Goals as goal

pub returns-clause-some : goal.returns-clause-some
returns-clause-some c = paths.some_path

pub returns-clause-one : goal.returns-clause-one
returns-clause-one c = paths.one_path
