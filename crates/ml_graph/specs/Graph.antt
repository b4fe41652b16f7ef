-- Modal graphs: what the formulas of all logics become.
--
-- A graph is a list of nodes, with a priority for each, and a root. Nodes refer to one another by their numbers, so that
-- a node may be shared, and may lead back to itself: a fixpoint is a cycle, and the lowest priority on it says of which
-- kind. Propositions and actions are named in two lists beside the nodes, and a node refers to a name by its place.
-- Graphs are of any size here; the type `ModalGraph` has those whose numbers fit 32 bits. The nodes are the variants of
-- the Rust enum.
--
--   Graph             == nodes, priorities, a root, and the names of propositions and actions
--   size g            == how many nodes
--   node_at g n, priority_at g n == node n, and its priority
--   prop_at g p, action_at g a   == the name of proposition p, and that of action a
--   references g      == the numbers to which nodes and root refer, each with what it has to be below: the nodes before
--                        the root, and the fields of a node in their order
--   IsGraph g         == a priority for each node, all numbers in range, and no name twice
--   odd_priorities g  == the odd priorities that occur, ascending
use Rattle.std.specs.Prelude.{ℕ, ◌≡◌, ◌<◌, ◌%◌, ◌==◌, ◌++◌, List, [], ◌∷◌, length, get_or, filter, All}
use Rattle.std.specs.List.{flat_map, IsDistinct}
use Rattle.std.specs.Str.{bytes_eq}
use Rattle.ml_lists.specs.Ascending.{ascending}
use Rattle.ml_graph.specs.declared.node.Node.{Node}
use Rattle.ml_graph.specs.declared.node.Node.TheVariants as node

-- nodes, priorities, a root, and the names of propositions and actions
pub record Graph : Type 0 where
  pub nodes : List Node
  pub priorities : List ℕ
  pub root : ℕ
  pub props : List (List ℕ)
  pub actions : List (List ℕ)

-- how many nodes
abbrev pub size : Graph → ℕ
size g = length g.nodes

-- node n; past the last node, where nobody asks, True
abbrev pub node_at : Graph → ℕ → Node
node_at g n = get_or g.nodes n node.True

-- the priority of node n
abbrev pub priority_at : Graph → ℕ → ℕ
priority_at g n = get_or g.priorities n 0

-- the name of proposition p
abbrev pub prop_at : Graph → ℕ → List ℕ
prop_at g p = get_or g.props p []

-- the name of action a
abbrev pub action_at : Graph → ℕ → List ℕ
action_at g a = get_or g.actions a []

-- a number to which something refers, and what it has to be below
pub record Reference : Type 0 where
  pub number : ℕ
  pub bound : ℕ

-- to what a node refers, field by field, in a graph with so many nodes, propositions and actions
abbrev pub references_of : (nodes props actions : ℕ) → Node → List Reference
references_of n p a (node.Lit prop positive) = record { number = prop; bound = p } ∷ []
references_of n p a (node.And l r) = record { number = l; bound = n } ∷ record { number = r; bound = n } ∷ []
references_of n p a (node.Or l r) = record { number = l; bound = n } ∷ record { number = r; bound = n } ∷ []
references_of n p a (node.Diamond action to) =
    record { number = action; bound = a } ∷ record { number = to; bound = n } ∷ []
references_of n p a (node.Square action to) =
    record { number = action; bound = a } ∷ record { number = to; bound = n } ∷ []
references_of n p a _ = []

-- to what nodes refer, and then the root
abbrev pub references_from : List Node → (root props actions : ℕ) → List Reference
references_from nodes root p a =
    flat_map (references_of (length nodes) p a) nodes ++ record { number = root; bound = length nodes } ∷ []

-- to what the nodes of a graph refer, and then its root
abbrev pub references : Graph → List Reference
references g = references_from g.nodes g.root (length g.props) (length g.actions)

-- a priority for each node, all numbers in range, and no name twice
pub record IsGraph (g : Graph) : Type 0 where
  pub priorities : length g.priorities ≡ size g
  pub in_range : All (λ r. r.number < r.bound) (references g)
  pub props_differ : IsDistinct bytes_eq g.props
  pub actions_differ : IsDistinct bytes_eq g.actions

-- the odd priorities that occur, ascending
abbrev pub odd_priorities : Graph → List ℕ
odd_priorities g = ascending (filter (λ d. d % 2 == 1) g.priorities)
