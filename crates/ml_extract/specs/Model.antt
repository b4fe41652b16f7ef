-- The model that Even's moves make, where Even wins the decision game.
--
-- Even plays the moves of a solution. At a position with an empty choice these moves choose sides of or-nodes, until
-- no or-node is open: what is known then is all that one state of the model has to meet. Each diamond of the spread
-- that they end with leads to a next position with an empty choice, and so to a next state. So of Even's moves those
-- of the solution are followed, and of Odd's all. The states are numbered breadth first, diamonds ascending.
--
--   PositionAt a v p     == p is the position with the number v
--   SpreadAt g a v sp    == sp is the spread of the position with the number v
--   Chooses g a s v w sp == from position v Even's moves choose until no or-node is open: at position w with spread sp
--   State                == where a state begins, and where nothing is left to choose, by the numbers of the positions;
--                           and the spread of the latter, which is the state's spread
--   nexts g a x          == the diamonds of the state's spread, each with the number of the position to which it leads
--   next_positions g a x == these numbers
--   AreStates g a s xs   == xs are the states, breadth first: the first one begins at position 0, and the others at the
--                           next positions of states
--   IsLabel g x name     == it is the name of a proposition whose positive literal is in the state's spread
--   IsModelEdge g a xs e == of some diamond of the state that e leaves, e has the action, and leads to the state that
--                           begins at the position to which this diamond leads
--   IsModelOf g a s m i  == m has these states, labels and edges, nothing twice, and i is the first state
use Rattle.std.specs.Prelude.{ℕ, ◌≡◌, ◌↔◌, true, List, [], map, length, get_or, slice_get, slice_index_or, Some}
use Rattle.std.specs.List.{zip}
use Rattle.ml_base.specs.declared.structure.Edge.{Edge}
use Rattle.ml_base.specs.Structure.{Structure}
use Rattle.ml_kripke.specs.Ordered.{IsOrdered}
use Rattle.ml_lists.specs.BreadthFirst.{IsBreadthFirst}
use Rattle.ml_lists.specs.Member.{IsMember}
use Rattle.ml_parity.specs.Solution.{GameSolution, choice_at}
use Rattle.ml_graph.specs.declared.node.Node.TheVariants as node
use Rattle.ml_graph.specs.Graph.{Graph, node_at, prop_at, action_at}
use Rattle.ml_sequent.specs.Spread.{SpreadList, IsSpreadOf, IsOpenOr}
use Rattle.ml_product.specs.Position.{Position}
use Rattle.ml_product.specs.DecisionGame.{diamonds_of}
use Rattle.ml_product.specs.Arena.{Arena}

abbrev pub PositionAt : Arena → ℕ → Position → Type 0
PositionAt a v p = slice_get a.positions v ≡ Some p

pub record SpreadAt (g : Graph) (a : Arena) (v : ℕ) (sp : SpreadList) : Type 0 where
  pub position : Position
  pub stands : PositionAt a v position
  pub is_spread : IsSpreadOf g position.sequent position.choice sp

-- ---- from a position to the end of its choices

pub data Chooses (g : Graph) (a : Arena) (s : GameSolution) : ℕ → ℕ → SpreadList → Type 0 where
  ends : (v : ℕ) (sp : SpreadList) → SpreadAt g a v sp → ((n : ℕ) → ¬ (IsOpenOr g sp n)) → Chooses g a s v v sp
  moves : (v w n : ℕ) (here sp : SpreadList)
      → SpreadAt g a v here
      → IsOpenOr g here n
      → Chooses g a s (choice_at s.choice v) w sp
      → Chooses g a s v w sp

-- ---- states

pub record State : Type 0 where
  pub first : ℕ
  pub last : ℕ
  pub spread : SpreadList

-- each diamond, ascending, with the move that the last position has for it
abbrev pub nexts : Graph → Arena → State → List (ℕ × ℕ)
nexts g a x = zip (diamonds_of g x.spread) (get_or a.moves x.last [])

abbrev pub next_positions : Graph → Arena → State → List ℕ
next_positions g a x = map (λ next. next.1) (nexts g a x)

pub record AreStates (g : Graph) (a : Arena) (s : GameSolution) (xs : List State) : Type 0 where
  pub chosen : (x : State) → IsMember x xs → Chooses g a s x.first x.last x.spread
  pub breadth_first : IsBreadthFirst 0 (map (next_positions g a) xs) (map (λ x. x.first) xs)

-- ---- labels and edges

pub record IsLabel (g : Graph) (x : State) (name : List ℕ) : Type 0 where
  pub literal : ℕ
  pub prop : ℕ
  pub member : IsMember literal x.spread.nodes
  pub is_positive : node_at g literal ≡ node.Lit prop true
  pub named : name ≡ prop_at g prop

pub record IsModelEdge (g : Graph) (a : Arena) (xs : List State) (e : Edge) : Type 0 where
  pub from : State
  pub to : State
  pub from_is : slice_get xs e.source ≡ Some from
  pub to_is : slice_get xs e.target ≡ Some to
  pub diamond : ℕ
  pub leads : IsMember (diamond, to.first) (nexts g a from)
  pub action : ℕ
  pub child : ℕ
  pub is_diamond : node_at g diamond ≡ node.Diamond action child
  pub action_is : e.action ≡ action_at g action

pub record IsModelOf (g : Graph) (a : Arena) (s : GameSolution) (m : Structure) (start : ℕ) : Type 0 where
  pub states : List State
  pub are_states : AreStates g a s states
  pub starts : start ≡ 0
  pub a_state_each : m.states ≡ length states
  pub labels_each : length m.labels ≡ length states
  pub labels : (i : ℕ) (x : State) → slice_get states i ≡ Some x
      → (name : List ℕ) → IsMember name (slice_index_or m.labels i []) ↔ IsLabel g x name
  pub edges : (e : Edge) → IsMember e m.edges ↔ IsModelEdge g a states e
  pub nothing_twice : IsOrdered m
