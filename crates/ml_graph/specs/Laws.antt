-- Where a graph holds at a node, told by the nodes to which it refers.
--
--   NodeHolds g m s x == what it takes for the node x to hold at s, by where the nodes hold to which it refers
--   OneStepLaw        == of graphs and structures of any size: a node holds at a state exactly if it takes that
use Rattle.std.specs.Prelude.{ℕ, ◌≡◌, ◌<◌, ◌↔◌, ◌⊎◌, Contains}
use Rattle.ml_base.specs.Structure.{Structure, IsStructure, lists}
use Rattle.ml_graph.specs.declared.node.Node.{Node}
use Rattle.ml_graph.specs.declared.node.Node.TheVariants as node
use Rattle.ml_graph.specs.Graph.{Graph, IsGraph, size, node_at, prop_at, action_at}
use Rattle.ml_graph.specs.CheckingGame.{HoldsAt, targets}

-- what it takes for a node to hold at the state s
abbrev pub NodeHolds : Graph → Structure → ℕ → Node → Type 0
NodeHolds g m s node.True = Unit {0}
NodeHolds g m s node.False = ⊥
NodeHolds g m s (node.Lit p positive) = lists m s (prop_at g p) ≡ positive
NodeHolds g m s (node.And l r) = HoldsAt g m s l × HoldsAt g m s r
NodeHolds g m s (node.Or l r) = HoldsAt g m s l ⊎ HoldsAt g m s r
NodeHolds g m s (node.Diamond a to) = (t : ℕ) × Contains (targets m s (action_at g a)) t × HoldsAt g m t to
NodeHolds g m s (node.Square a to) = (t : ℕ) → Contains (targets m s (action_at g a)) t → HoldsAt g m t to

-- a node holds at a state exactly if it takes that
abbrev pub OneStepLaw : Type 0
OneStepLaw =
    (g : Graph) (m : Structure) → IsGraph g → IsStructure m → (s n : ℕ) → s < m.states → n < size g
    → HoldsAt g m s n ↔ NodeHolds g m s (node_at g n)
