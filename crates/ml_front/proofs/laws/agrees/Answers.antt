use Rattle.ml_front.proofs.Graphs.{graphs_agree}
use Rattle.ml_front.proofs.laws.agrees.Goals as goal

pub returns : goal.returns
returns c = graphs_agree
