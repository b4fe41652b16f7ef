-- How the states of a graph are marked, and get their numbers.
--
--   Makes g v n             == the node v makes n a state
--   mark marks n            == is n marked?
--   IsMadeBelow k g n       == n is node 0, or one of the first k nodes makes it a state
--   IsMarkedMore P xs ys    == what has P is marked, beside what was
--   AreMarkedBelow k g marks == these are marked, and nothing else
--   AreMarked g marks       == the states of g are marked, and nothing else
--   AreNumbered marks states numbers == `states` are the marked numbers, ascending, and `numbers` has the place of each
--   IsHeld g nodes numbers  == `nodes` are the states of g, ascending, and `numbers` has the place of each
use Rattle.std.specs.Prelude.{ℕ, ◌≡◌, ◌⊎◌, ◌<◌, ◌≤◌, ◌^◌, ◌↔◌, Bool, true, false, List, length, get_or}
use Rattle.ml_lists.specs.Ascending.{IsAscending}
use Rattle.ml_lists.specs.Member.{IsMember}
use Rattle.ml_graph.specs.Graph.{Graph, node_at, size}
use Rattle.ml_graph.specs.declared.node.Node.{Node}
use Rattle.ml_graph.specs.declared.node.Node.TheVariants as node
use Rattle.ml_word_automaton.specs.Letters.{GoesOn, HasItsStates, IsState}

-- the node v makes n a state: a Diamond leads to it, or it is True and the node of a block goes on to it
abbrev pub Makes : Graph → Node → ℕ → Type 0
Makes g (node.Diamond a q) n = n ≡ q
Makes g v n = GoesOn v n × (node_at g n ≡ node.True)

abbrev pub mark : List Bool → ℕ → Bool
mark marks n = get_or marks n false

-- what has P is marked, beside what was
pub record IsMarkedMore (P : ℕ → Type 0) (xs ys : List Bool) : Type 0 where
  pub as_long : length ys ≡ length xs
  pub marked : (n : ℕ) → (mark ys n ≡ true) ↔ ((mark xs n ≡ true) ⊎ P n)

-- n is node 0, or one of the first k nodes makes it a state
abbrev pub IsMadeBelow : ℕ → Graph → ℕ → Type 0
IsMadeBelow k g n = (n ≡ 0) ⊎ ((j : ℕ) × (j < k) × Makes g (node_at g j) n)

-- these are marked
abbrev pub AreMarkedBelow : ℕ → Graph → List Bool → Type 0
AreMarkedBelow k g marks = (n : ℕ) → (mark marks n ≡ true) ↔ IsMadeBelow k g n

pub record AreMarked (g : Graph) (marks : List Bool) : Type 0 where
  pub as_long : length marks ≡ size g
  pub states : (n : ℕ) → (mark marks n ≡ true) ↔ IsState g n

-- the number of the state n is its place
pub record HasNumber (states numbers : List ℕ) (n : ℕ) : Type 0 where
  pub is_low : get_or numbers n 0 < length states
  pub is : get_or states (get_or numbers n 0) 0 ≡ n

-- the marked numbers below k are numbered
pub record AreNumberedBelow (k : ℕ) (marks : List Bool) (states numbers : List ℕ) : Type 0 where
  pub ascend : IsAscending states
  pub members : (n : ℕ) → IsMember n states ↔ ((n < k) × (mark marks n ≡ true))
  pub as_long : length numbers ≡ k
  pub few : length states ≤ k
  pub are_numbered : (n : ℕ) → IsMember n states → HasNumber states numbers n

abbrev pub AreNumbered : List Bool → (states numbers : List ℕ) → Type 0
AreNumbered marks states numbers = AreNumberedBelow (length marks) marks states numbers

-- the states of g, listed and numbered
pub record IsHeld (g : Graph) (nodes numbers : List ℕ) : Type 0 where
  pub listed : HasItsStates (record { graph = g; states = nodes })
  pub as_long : length numbers ≡ size g
  pub are_numbered : (n : ℕ) → IsMember n nodes → HasNumber nodes numbers n
  pub few : length nodes ≤ size g
  pub small : size g ≤ 2 ^ 30
