use Rattle.std.proofs.Common.{refl}
use Rattle.ml_graph.proofs.EdgesLeft.{counted}
use Rattle.ml_graph.proofs.at_state.count_leaving.Goals as goal

pub returns : goal.returns
returns c =
    counted c.args.state c.args.edges.now c.first_other.result _ c.unwrap_or.result c.first_other.ensures refl
    c.unwrap_or.ensures
