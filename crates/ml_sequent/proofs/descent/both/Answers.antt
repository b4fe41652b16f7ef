use Rattle.std.proofs.Common.{◌≡◌}
use Rattle.ml_graph.specs.declared.node.Node.TheVariants as node
use Rattle.ml_graph.specs.Graph.{size, node_at}
use Rattle.ml_graph.proofs.References.{and_left, and_right, or_left, or_right}
use Rattle.ml_sequent.proofs.RankedWalks.{two_below}
use Rattle.ml_sequent.proofs.descent.both.Goals as goal

pub returns-in-And-clause-low : goal.returns-in-And-clause-low
returns-in-And-clause-low c =
    let g = c.args.graph.now in
    let is : node_at g c.args.node ≡ node.And c.in-And.left c.in-And.right = cc in
    two_below (size g) c.in-And.left c.in-And.right
    (and_left g c.keeps.ensures.is_graph c.args.node c.requires c.in-And.left c.in-And.right is)
    (and_right g c.keeps.ensures.is_graph c.args.node c.requires c.in-And.left c.in-And.right is)

pub returns-in-Or-clause-low : goal.returns-in-Or-clause-low
returns-in-Or-clause-low c =
    let g = c.args.graph.now in
    let is : node_at g c.args.node ≡ node.Or c.in-Or.left c.in-Or.right = cc in
    two_below (size g) c.in-Or.left c.in-Or.right
    (or_left g c.keeps.ensures.is_graph c.args.node c.requires c.in-Or.left c.in-Or.right is)
    (or_right g c.keeps.ensures.is_graph c.args.node c.requires c.in-Or.left c.in-Or.right is)
