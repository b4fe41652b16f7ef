use Rattle.std.proofs.Common.{◌≡◌, true, length, ap, arith}
use Rattle.ml_graph.specs.declared.node.Node.TheVariants as node
use Rattle.ml_graph.specs.Graph.{node_at}
use Rattle.ml_graph.proofs.References.{prop_in_range}
use Rattle.ml_extract.proofs.GatheredParts.{label_read}
use Rattle.ml_extract.proofs.parts.add_label.Goals as goal

pub bounds-props-prop : goal.bounds-props-prop
bounds-props-prop c =
    let is : node_at c.args.graph.now c.args.node ≡ node.Lit c.in-Lit-default-true.prop true = cc in
    let low =
    prop_in_range c.args.graph.now c.keeps.ensures.is_graph c.args.node c.requires c.in-Lit-default-true.prop
    true is in
    omega (arith, ap length c.props.ensures.value)

pub returns-in_ok-push : goal.returns-in_ok-push
returns-in_ok-push c =
    let is : node_at c.args.graph.now c.args.node ≡ node.Lit c.in-Lit-default-true.prop true = cc in
    let low =
    prop_in_range c.args.graph.now c.keeps.ensures.is_graph c.args.node c.requires c.in-Lit-default-true.prop
    true is in
    label_read c.args.graph.now c.args.state (node_at c.args.graph.now c.args.node) c.in-Lit-default-true.prop
    c.props.result.now c.index-props-prop.result c.in_ok-copy.field-0 c.args.labels.now.items c.push.new.self.items is
    c.props.ensures.value low c.index-props-prop.is c.in_ok-copy.ensures c.in_ok-push.ensures.items
