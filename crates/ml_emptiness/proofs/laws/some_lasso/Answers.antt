use Rattle.ml_emptiness.proofs.SomeLasso as lassos
use Rattle.ml_emptiness.proofs.laws.some_lasso.Goals as goal

pub returns : goal.returns
returns c = lassos.some_lasso
