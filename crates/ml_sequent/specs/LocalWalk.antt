-- Local walks: how a formula is pursued at one state.
--
-- At a state an And is both its children, and an Or is the child that was chosen for it; nothing else is resolved there. A
-- local walk goes along these children, at least nowhere. All notions of the local phase are said of one relation: from
-- where, with which lowest priority, to where.
--
--   children g c n      == the nodes to which n leads locally: both children of an And, the chosen one of an Or
--   LocalWalk g c n k m == some local walk leads from n to m, and k is the lowest priority on it, both ends counted
--   InSpread g c C m    == a local walk leads from a node of C to m
use Rattle.std.specs.Prelude.{ℕ, min, List, [], ◌∷◌, Option, Some, None}
use Rattle.ml_lists.specs.Member.{IsMember}
use Rattle.ml_graph.specs.declared.node.Node.{Node}
use Rattle.ml_graph.specs.declared.node.Node.TheVariants as node
use Rattle.ml_graph.specs.Graph.{Graph, node_at, priority_at}
use Rattle.ml_sequent.specs.declared.choice.Side.{Side}
use Rattle.ml_sequent.specs.Choice.{side_of, chosen}

-- the chosen child, if one was chosen
abbrev pub chosen_child : Option Side → ℕ → ℕ → List ℕ
chosen_child None l r = []
chosen_child (Some s) l r = chosen s l r ∷ []

-- to which nodes a node leads locally
abbrev pub children_of : List (ℕ × Side) → ℕ → Node → List ℕ
children_of c n (node.And l r) = l ∷ r ∷ []
children_of c n (node.Or l r) = chosen_child (side_of c n) l r
children_of c n _ = []

-- to which nodes node n leads locally
abbrev pub children : Graph → List (ℕ × Side) → ℕ → List ℕ
children g c n = children_of c n (node_at g n)

-- a local walk, with the lowest priority on it
pub data LocalWalk : Graph → List (ℕ × Side) → ℕ → ℕ → ℕ → Type 0 where
  stays : {g : Graph} {c : List (ℕ × Side)} (n : ℕ) → LocalWalk g c n (priority_at g n) n
  goes : {g : Graph} {c : List (ℕ × Side)} {k m : ℕ} (n next : ℕ)
      → IsMember next (children g c n)
      → LocalWalk g c next k m
      → LocalWalk g c n (min (priority_at g n) k) m

-- a local walk leads from a node of C to m
pub record InSpread (g : Graph) (c : List (ℕ × Side)) (C : List ℕ) (m : ℕ) : Type 0 where
  pub from : ℕ
  pub member : IsMember from C
  pub lowest : ℕ
  pub walk : LocalWalk g c from lowest m
