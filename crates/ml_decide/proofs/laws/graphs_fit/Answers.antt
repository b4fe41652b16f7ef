use Rattle.ml_decide.proofs.ProblemGraphs.{graphs_fit}
use Rattle.ml_decide.proofs.laws.graphs_fit.Goals as goal

pub returns : goal.returns
returns c = graphs_fit
