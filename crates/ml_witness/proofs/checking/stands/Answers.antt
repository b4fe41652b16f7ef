use Rattle.std.proofs.Common.{◌≡◌}
use Rattle.ml_graph.specs.declared.node.Node.TheVariants as node
use Rattle.ml_graph.specs.Graph.{node_at}
use Rattle.ml_graph.proofs.References.{diamond_action, prop_in_range}
use Rattle.ml_witness.proofs.checking.stands.Goals as goal

pub literal_stands-requires-clause-prop : goal.literal_stands-requires-clause-prop
literal_stands-requires-clause-prop c =
    let is : node_at c.args.graph.now c.args.n ≡ node.Lit c.in-Lit.prop c.in-Lit.positive = cc in
    prop_in_range c.args.graph.now c.keeps.ensures.is_graph c.args.n c.requires.node c.in-Lit.prop c.in-Lit.positive is

pub some_goes_along-requires-clause-action : goal.some_goes_along-requires-clause-action
some_goes_along-requires-clause-action c =
    let is : node_at c.args.graph.now c.args.n ≡ node.Diamond c.in-Diamond.action c.in-Diamond.to = cc in
    diamond_action c.args.graph.now c.keeps.ensures.is_graph c.args.n c.requires.node c.in-Diamond.action
    c.in-Diamond.to is
