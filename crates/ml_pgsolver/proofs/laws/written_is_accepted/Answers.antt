use Rattle.ml_pgsolver.proofs.WrittenSolutions.{written_is_accepted}
use Rattle.ml_pgsolver.proofs.laws.written_is_accepted.Goals as goal

pub returns : goal.returns
returns c = written_is_accepted
