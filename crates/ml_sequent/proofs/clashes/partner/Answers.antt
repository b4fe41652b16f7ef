use Rattle.std.proofs.Common.{true, sym, ap, ◌∙◌, arith}
use Rattle.ml_graph.specs.Graph.{node_at}
use Rattle.ml_graph.proofs.References.{prop_in_range}
use Rattle.ml_sequent.specs.private.Tests.{positive_prop, partner_of}
use Rattle.ml_sequent.proofs.Causes.{positive_prop-is}
use Rattle.ml_sequent.proofs.clashes.partner.Goals as goal

pub bounds-firsts-prop : goal.bounds-firsts-prop
bounds-firsts-prop c =
    let is = ap positive_prop (sym c.node.ensures) ∙ sym c.in-Some.ensures in
    let low = prop_in_range c.args.graph.now c.keeps.ensures.is_graph c.args.node c.requires.node c.in-Some.prop true (positive_prop-is c.in-Some.prop (node_at c.args.graph.now c.args.node) is) in
    omega (arith, low, c.requires.firsts.sizes)

pub returns-in-Some : goal.returns-in-Some
returns-in-Some c =
    let is = ap positive_prop (sym c.node.ensures) ∙ sym c.in-Some.ensures in
    let low = prop_in_range c.args.graph.now c.keeps.ensures.is_graph c.args.node c.requires.node c.in-Some.prop true (positive_prop-is c.in-Some.prop (node_at c.args.graph.now c.args.node) is) in
    c.requires.firsts.firsts_are c.in-Some.prop low ∙ sym (ap (partner_of c.args.graph.now c.args.nodes.now) is)

pub returns-in-None : goal.returns-in-None
returns-in-None c = sym (ap (partner_of c.args.graph.now c.args.nodes.now) (ap positive_prop (sym c.node.ensures) ∙ sym c.in-None.ensures))
