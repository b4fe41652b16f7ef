use Rattle.ml_graph.proofs.References.{found}
use Rattle.ml_graph.proofs.modal_graph.first_out_of_range.Goals as goal

pub returns-in-Some : goal.returns-in-Some
returns-in-Some c =
    found c.args.nodes.now c.args.root c.args.props c.args.actions c.loop-node.node-index c.in-Some.number
    c.loop-node-test.true c.in-Some.ensures c.loop-node.invariant
