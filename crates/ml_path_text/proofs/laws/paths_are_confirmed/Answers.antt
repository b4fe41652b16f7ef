use Rattle.ml_path_text.proofs.Confirmed.{paths_confirmed, texts_confirmed}
use Rattle.ml_path_text.proofs.laws.paths_are_confirmed.Goals as goal

pub returns-clause-paths : goal.returns-clause-paths
returns-clause-paths c = paths_confirmed

pub returns-clause-texts : goal.returns-clause-texts
returns-clause-texts c = texts_confirmed
