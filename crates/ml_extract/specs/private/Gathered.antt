-- Labels and edges as they are gathered. Only private contracts cite this.
--
--   HasSpread g a v         == some spread is that of the position with the number v
--   names_of g x            == the name of the proposition, if the node is a positive literal
--   names_in g sp           == those of the nodes of a spread, in their order
--   labelled i names        == these names as labels of the state i
--   action_of g x           == the action of a diamond
--   place_of fs v           == where v stands first in fs
--   edge_to g fs i next     == the edge of the state i by a diamond and the position to which it leads, where the states
--                              begin at fs
--   HasLabel g xs i name    == it is a label of the state i of xs
--   AreGathered g a xs n ls es == ls are the labels of the first n states of xs, and es their edges
use Rattle.std.specs.Prelude.{ℕ, ◌≡◌, ◌<◌, ◌↔◌, true, false, List, [], ◌∷◌, map, nat_eq, slice_get, Some}
use Rattle.std.specs.List.{flat_map, position_or_len}
use Rattle.ml_base.specs.declared.structure.Edge.{Edge}
use Rattle.ml_lists.specs.Member.{IsMember}
use Rattle.ml_graph.specs.declared.node.Node.{Node}
use Rattle.ml_graph.specs.declared.node.Node.TheVariants as node
use Rattle.ml_graph.specs.Graph.{Graph, node_at, prop_at, action_at}
use Rattle.ml_sequent.specs.Spread.{SpreadList}
use Rattle.ml_product.specs.Arena.{Arena}
use Rattle.ml_extract.specs.Model.{SpreadAt, State, IsLabel, IsModelEdge}

abbrev pub HasSpread : Graph → Arena → ℕ → Type 0
HasSpread g a v = (sp : SpreadList) × SpreadAt g a v sp

abbrev pub names_of : Graph → Node → List (List ℕ)
names_of g node.True = []
names_of g node.False = []
names_of g (node.Lit p true) = prop_at g p ∷ []
names_of g (node.Lit p false) = []
names_of g (node.And l r) = []
names_of g (node.Or l r) = []
names_of g (node.Diamond a to) = []
names_of g (node.Square a to) = []

abbrev pub names_in : Graph → SpreadList → List (List ℕ)
names_in g sp = flat_map (λ n. names_of g (node_at g n)) sp.nodes

abbrev pub labelled : ℕ → List (List ℕ) → List (ℕ × List ℕ)
labelled i names = map (λ name. (i, name)) names

abbrev pub action_of : Graph → Node → List ℕ
action_of g node.True = []
action_of g node.False = []
action_of g (node.Lit p positive) = []
action_of g (node.And l r) = []
action_of g (node.Or l r) = []
action_of g (node.Diamond a to) = action_at g a
action_of g (node.Square a to) = action_at g a

abbrev pub place_of : List ℕ → ℕ → ℕ
place_of fs v = position_or_len (nat_eq v) fs

abbrev pub edge_to : Graph → List ℕ → ℕ → ℕ × ℕ → Edge
edge_to g fs i next = record { source = i; action = action_of g (node_at g next.0); target = place_of fs next.1 }

pub record HasLabel (g : Graph) (xs : List State) (i : ℕ) (name : List ℕ) : Type 0 where
  pub state : State
  pub stands : slice_get xs i ≡ Some state
  pub is_label : IsLabel g state name

pub record AreGathered (g : Graph) (a : Arena) (xs : List State) (n : ℕ) (labels : List (ℕ × List ℕ))
    (edges : List Edge) : Type 0 where
  pub labels_are : (i : ℕ) (name : List ℕ) → IsMember (i, name) labels ↔ ((i < n) × HasLabel g xs i name)
  pub edges_are : (e : Edge) → IsMember e edges ↔ ((e.source < n) × IsModelEdge g a xs e)
