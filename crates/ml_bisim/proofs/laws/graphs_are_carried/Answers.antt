use Rattle.ml_bisim.proofs.Carrying.{graphs_carried}
use Rattle.ml_bisim.proofs.laws.graphs_are_carried.Goals as goal

pub returns : goal.returns
returns c = record { law = graphs_carried }
