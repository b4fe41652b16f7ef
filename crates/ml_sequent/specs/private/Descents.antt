-- Ranks of nodes that fall along local walks. Only private contracts and proofs cite what stands here.
--
--   operands x       == the children of an And or an Or, whatever is chosen
--   Falls g ranks    == the operands of a node with a rank have one too, and a lesser one
--   MayCycle g ranks n == n has an odd priority, and no rank
use Rattle.std.specs.Prelude.{ℕ, ◌≡◌, ◌<◌, ◌%◌, List, [], ◌∷◌, length, get_or}
use Rattle.ml_lists.specs.Member.{IsMember}
use Rattle.ml_graph.specs.declared.node.Node.{Node}
use Rattle.ml_graph.specs.declared.node.Node.TheVariants as node
use Rattle.ml_graph.specs.Graph.{Graph, size, node_at, priority_at}

-- the children of an And or an Or
abbrev pub operands : Node → List ℕ
operands node.True = []
operands node.False = []
operands (node.Lit p positive) = []
operands (node.And l r) = l ∷ r ∷ []
operands (node.Or l r) = l ∷ r ∷ []
operands (node.Diamond a to) = []
operands (node.Square a to) = []

-- the operands of a node with a rank have a lesser one
pub record Falls (g : Graph) (ranks : List ℕ) : Type 0 where
  pub sizes : length ranks ≡ size g
  pub falls : (n m : ℕ) → 0 < get_or ranks n 0 → IsMember m (operands (node_at g n))
      → (0 < get_or ranks m 0) × (get_or ranks m 0 < get_or ranks n 0)

-- an odd priority, and no rank
abbrev pub MayCycle : Graph → List ℕ → ℕ → Type 0
MayCycle g ranks n = (priority_at g n % 2 ≡ 1) × (get_or ranks n 0 ≡ 0)
