use Rattle.ml_ctl.proofs.TotalPaths as lemma
use Rattle.ml_ctl.proofs.laws.paths_start.Goals as goal

pub returns : goal.returns
returns c = lemma.paths_start
