-- The places of the word automaton of a formula: where walks come to, and what they ask of a letter.
--
-- Under a letter a walk begins at a state and goes on past literals that are true in the letter (`ml_word_automaton`). Under no
-- letter it goes past each literal, and keeps in a cube what it asks: so it begins with the empty cube, a literal joins the
-- cube, and it goes no further where the cube would get both signs of a proposition, or where a state node is False. Since a
-- cube is a set, it is written as the one list that has its literals in ascending order of their propositions. A place is a
-- state, a node and a cube such that a walk from the state comes to the node with the cube. Each state counts, whether or not
-- letters lead to it, and is a place itself, with the empty cube.
--
--   IsJoined c l d          == the cube d has the literals of the cube c, and l
--   Names g props k b l     == l says that the proposition k of the graph g is true, or false, as b says, by its number in
--                              props
--   PassesNode, Passes      == past the state node a walk goes on, and its cube c becomes d
--   GoesOnAt, GoesOn g props n c m d == from the node n with the cube c a walk goes on to m, with d
--   Place                   == a state by its number, a node, and a cube
--   begin a p               == the place where walks from the state p begin
--   IsPlace a props s       == s is a place of the automaton a
--   HasMorePlaces a props n == a has more than n places: some list has that many, each once
use Rattle.std.specs.Prelude.{ℕ, ◌≡◌, ◌≢◌, ◌⊎◌, ◌<◌, ◌↔◌, Bool, List, [], length, map, Some, slice_get}
use Rattle.ml_graph.specs.Graph.{Graph, node_at, prop_at}
use Rattle.ml_graph.specs.declared.node.Node.{Node}
use Rattle.ml_graph.specs.declared.node.Node.TheVariants as node
use Rattle.ml_lists.specs.Added.{HasOnePlace}
use Rattle.ml_lists.specs.Ascending.{IsAscending}
use Rattle.ml_lists.specs.Member.{IsMember}
use Rattle.ml_labelled.specs.declared.labelled.Literal.{Literal}
pub use Rattle.ml_translate.specs.declared.place.Place.{Place}
use Rattle.ml_word_automaton.specs.Letters.{Automaton, node_of}

-- ---- cubes

-- a cube ascends, so it has no proposition twice
pub record IsJoined (c : List Literal) (l : Literal) (d : List Literal) : Type 0 where
  pub ascends : IsAscending (map (λ (m : Literal). m.prop) d)
  pub literals : (m : Literal) → IsMember m d ↔ (IsMember m c ⊎ (m ≡ l))

pub record Names (g : Graph) (props : List (List ℕ)) (k : ℕ) (positive : Bool) (l : Literal) : Type 0 where
  pub name : slice_get props l.prop ≡ Some (prop_at g k)
  pub sign : l.positive ≡ positive

-- ---- walks

abbrev pub PassesNode : Graph → List (List ℕ) → Node → (c d : List Literal) → Type 0
PassesNode g props node.True c d = d ≡ c
PassesNode g props (node.Lit k positive) c d = (l : Literal) × Names g props k positive l × IsJoined c l d
PassesNode g props v c d = ⊥

abbrev pub Passes : Graph → List (List ℕ) → ℕ → (c d : List Literal) → Type 0
Passes g props n c d = PassesNode g props (node_at g n) c d

-- to the one child, or past a state node to a block; to either child
abbrev pub GoesOnAt : Graph → List (List ℕ) → Node → List Literal → ℕ → List Literal → Type 0
GoesOnAt g props (node.And l r) c m d = (m ≡ r) × (((l ≡ r) × (d ≡ c)) ⊎ ((l ≢ r) × Passes g props l c d))
GoesOnAt g props (node.Or l r) c m d = ((m ≡ l) ⊎ (m ≡ r)) × (d ≡ c)
GoesOnAt g props v c m d = ⊥

abbrev pub GoesOn : Graph → List (List ℕ) → ℕ → List Literal → ℕ → List Literal → Type 0
GoesOn g props n c m d = GoesOnAt g props (node_at g n) c m d

-- ---- places

abbrev pub begin : Automaton → ℕ → Place
begin a p = record { state = p; node = node_of a p; cube = [] }

abbrev pub further : Place → ℕ → List Literal → Place
further s n c = record { state = s.state; node = n; cube = c }

pub data IsPlace (a : Automaton) (props : List (List ℕ)) : Place → Type 0 where
  begins : (p : ℕ) → p < length a.states → IsPlace a props (begin a p)
  goes_on : (s : Place) (n : ℕ) (c : List Literal)
      → IsPlace a props s
      → GoesOn a.graph props s.node s.cube n c
      → IsPlace a props (further s n c)

pub record HasMorePlaces (a : Automaton) (props : List (List ℕ)) (n : ℕ) : Type 0 where
  pub places : List Place
  pub once : HasOnePlace places
  pub are_places : (s : Place) → IsMember s places → IsPlace a props s
  pub is_longer : n < length places
