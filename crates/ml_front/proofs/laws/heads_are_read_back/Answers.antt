use Rattle.ml_front.proofs.ReadBack.{heads_read_back}
use Rattle.ml_front.proofs.laws.heads_are_read_back.Goals as goal

pub returns : goal.returns
returns c = heads_read_back
