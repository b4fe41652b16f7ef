use Rattle.std.proofs.Common.{◌≡◌}
use Rattle.ml_graph.specs.declared.node.Node.TheVariants as node
use Rattle.ml_graph.specs.Graph.{node_at}
use Rattle.ml_graph.proofs.References.{square_action}
use Rattle.ml_witness.proofs.checking.square_leads.Goals as goal

pub has_action-requires : goal.has_action-requires
has_action-requires c =
    let is : node_at c.args.graph.now c.args.n ≡ node.Square c.in-Square.action c.in-Square.to = cc in
    square_action c.args.graph.now c.keeps.ensures.is_graph c.args.n c.requires c.in-Square.action c.in-Square.to is
