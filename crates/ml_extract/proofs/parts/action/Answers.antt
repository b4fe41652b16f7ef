use Rattle.std.proofs.Common.{◌≡◌, length, ap, arith}
use Rattle.ml_graph.specs.declared.node.Node.TheVariants as node
use Rattle.ml_graph.specs.Graph.{node_at}
use Rattle.ml_graph.proofs.References.{diamond_action}
use Rattle.ml_extract.proofs.GatheredParts.{action_read}
use Rattle.ml_extract.proofs.parts.action.Goals as goal

pub bounds-actions-action : goal.bounds-actions-action
bounds-actions-action c =
    let is : node_at c.args.graph.now c.args.diamond ≡ node.Diamond c.in-Diamond.action c.in-Diamond.to = cc in
    let low =
    diamond_action c.args.graph.now c.keeps.ensures.is_graph c.args.diamond c.requires.node c.in-Diamond.action
    c.in-Diamond.to is in
    omega (arith, ap length c.actions.ensures.value)

pub returns : goal.returns
returns c =
    let is : node_at c.args.graph.now c.args.diamond ≡ node.Diamond c.in-Diamond.action c.in-Diamond.to = cc in
    let low =
    diamond_action c.args.graph.now c.keeps.ensures.is_graph c.args.diamond c.requires.node c.in-Diamond.action
    c.in-Diamond.to is in
    action_read c.args.graph.now (node_at c.args.graph.now c.args.diamond) c.in-Diamond.action c.in-Diamond.to
    c.actions.result.now c.index-actions-action.result is c.actions.ensures.value low c.index-actions-action.is
