use Rattle.ml_mu_graph.proofs.LeastSets.{binder_is_least}
use Rattle.ml_mu_graph.proofs.laws.binders_are_least.Goals as goal

pub returns : goal.returns
returns c = binder_is_least
