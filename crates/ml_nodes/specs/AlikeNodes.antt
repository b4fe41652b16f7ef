-- Graphs that are one but for their lists of names: the order there, and names that stand at no node.
--
--   AreAlikeNodes g h v w == v, a node of g, and w, a node of h, are one but for the places of names
--   AreAlike g h          == so are all nodes of g and h with one number, and their priorities are the same
use Rattle.std.specs.Prelude.{ℕ, ◌≡◌, ◌<◌}
use Rattle.ml_graph.specs.Graph.{Graph, size, node_at, priority_at, prop_at, action_at}
use Rattle.ml_graph.specs.declared.node.Node.{Node}
use Rattle.ml_graph.specs.declared.node.Node.TheVariants as node

abbrev pub AreAlikeNodes : Graph → Graph → Node → Node → Type 0
AreAlikeNodes g h node.True w = w ≡ node.True
AreAlikeNodes g h node.False w = w ≡ node.False
AreAlikeNodes g h (node.Lit p positive) w = (q : ℕ) × (w ≡ node.Lit q positive) × (prop_at h q ≡ prop_at g p)
AreAlikeNodes g h (node.And l r) w = w ≡ node.And l r
AreAlikeNodes g h (node.Or l r) w = w ≡ node.Or l r
AreAlikeNodes g h (node.Diamond a to) w = (b : ℕ) × (w ≡ node.Diamond b to) × (action_at h b ≡ action_at g a)
AreAlikeNodes g h (node.Square a to) w = (b : ℕ) × (w ≡ node.Square b to) × (action_at h b ≡ action_at g a)

pub record AreAlike (g h : Graph) : Type 0 where
  pub sizes : size g ≡ size h
  pub roots : g.root ≡ h.root
  pub priorities : (n : ℕ) → n < size g → priority_at g n ≡ priority_at h n
  pub nodes : (n : ℕ) → n < size g → AreAlikeNodes g h (node_at g n) (node_at h n)
