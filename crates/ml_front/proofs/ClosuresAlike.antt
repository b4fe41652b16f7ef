-- Two graphs that are one but for their lists of names are alike, so those of one closure are.
--
--   same_node  == nodes that are one but for the places of names have one shape, and refer to one name
--   alike      == and so it is of graphs
use Rattle.std.proofs.Common.{◌≡◌, sym, ap, ◌∙◌}
use Rattle.ml_graph.specs.Graph.{Graph, IsGraph, node_at}
use Rattle.ml_graph.specs.declared.node.Node.{Node}
use Rattle.ml_graph.specs.declared.node.Node.TheVariants as node
use Rattle.ml_nodes.specs.AlikeNodes as nodes
use Rattle.ml_nodes.specs.AlikeNodes.{AreAlikeNodes}
use Rattle.ml_front.proofs.AlikeGraphs.{AreAlike, alike_below, name_in, shape}

module _ (g h : Graph) where
  same_node : (v w : Node) → AreAlikeNodes g h v w → (shape v ≡ shape w) × (name_in g v ≡ name_in h w)
  same_node node.True w is = (ap shape (sym is), ap (name_in h) (sym is))
  same_node node.False w is = (ap shape (sym is), ap (name_in h) (sym is))
  same_node (node.Lit p positive) w (q, is, name) = (ap shape (sym is), sym name ∙ ap (name_in h) (sym is))
  same_node (node.And l r) w is = (ap shape (sym is), ap (name_in h) (sym is))
  same_node (node.Or l r) w is = (ap shape (sym is), ap (name_in h) (sym is))
  same_node (node.Diamond a to) w (b, is, name) = (ap shape (sym is), sym name ∙ ap (name_in h) (sym is))
  same_node (node.Square a to) w (b, is, name) = (ap shape (sym is), sym name ∙ ap (name_in h) (sym is))

  pub alike : nodes.AreAlike g h → IsGraph g → IsGraph h → AreAlike g h
  alike one is other =
      alike_below g h is other one.sizes one.roots
      (λ n low.
      let same = same_node (node_at g n) (node_at h n) (one.nodes n low) in
      record { shapes = same.0; names = same.1; ranks = one.priorities n low })
