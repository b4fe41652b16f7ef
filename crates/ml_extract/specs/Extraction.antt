-- What is true of the model that Even's moves make.
--
--   EvenWins g a s      == a is the arena of the graph g, s a solution of its game, and Even wins vertex 0
--   IsReachedFrom m s t == edges of m lead from the state s to the state t
--   HasDiamond g e      == the edge has the action of a diamond of g
--   Extracted g m s     == m is a structure with the state s, the graph holds there, every state is reached from s, every
--                          edge has the action of a diamond, and where the graph has one diamond at most, edges from one
--                          state are one
--   ModelsHold          == where Even wins, the model is such a structure with its start
--   IsMet a s v         == v is a vertex of a play from vertex 0 that follows Even's moves
--   StatesAreMet        == where Even wins, the states of the model begin exactly at the positions that are met and at
--                          which no side is chosen yet
--   OneModel            == a graph, an arena and a solution have one model at most
--   SomeModel           == where Even wins, there is one, with at most as many states as the arena has positions
use Rattle.std.specs.Prelude.{ℕ, ◌≡◌, ◌<◌, ◌≤◌, ◌↔◌, [], length, map}
use Rattle.ml_base.specs.declared.structure.Edge.{Edge}
use Rattle.ml_base.specs.Structure.{Structure, IsStructure}
use Rattle.ml_lists.specs.Member.{IsMember}
use Rattle.ml_parity.specs.declared.players.Player.TheVariants.{Even}
use Rattle.ml_parity.specs.Game.{HasMove, owner_of}
use Rattle.ml_parity.specs.Solution.{GameSolution, IsSolution, choice_at}
use Rattle.ml_parity.specs.Winner.{Wins}
use Rattle.ml_graph.specs.declared.node.Node.TheVariants as node
use Rattle.ml_graph.specs.Graph.{Graph, IsGraph, node_at, action_at, size}
use Rattle.ml_graph.specs.CheckingGame.{Holds}
use Rattle.ml_graph.specs.Diamonds.{HasOneDiamond}
use Rattle.ml_product.specs.Position.{Position}
use Rattle.ml_product.specs.Arena.{Arena, IsArenaOf, game_of}
use Rattle.ml_extract.specs.Model.{PositionAt, IsModelOf}

pub record EvenWins (g : Graph) (a : Arena) (s : GameSolution) : Type 0 where
  pub is_graph : IsGraph g
  pub is_arena : IsArenaOf g a
  pub is_solution : IsSolution (game_of a) s
  pub wins : Wins (game_of a) Even 0

pub data IsReachedFrom (m : Structure) (s : ℕ) : ℕ → Type 0 where
  itself : IsReachedFrom m s s
  along : (e : Edge) → IsReachedFrom m s e.source → IsMember e m.edges → IsReachedFrom m s e.target

pub record HasDiamond (g : Graph) (e : Edge) : Type 0 where
  pub diamond : ℕ
  pub is_node : diamond < size g
  pub action : ℕ
  pub child : ℕ
  pub is_diamond : node_at g diamond ≡ node.Diamond action child
  pub action_is : e.action ≡ action_at g action

pub record Extracted (g : Graph) (m : Structure) (start : ℕ) : Type 0 where
  pub is_structure : IsStructure m
  pub is_state : start < m.states
  pub holds : Holds g m start
  pub reached : (t : ℕ) → t < m.states → IsReachedFrom m start t
  pub along_diamonds : (e : Edge) → IsMember e m.edges → HasDiamond g e
  pub only_edge : HasOneDiamond g → (e f : Edge) → IsMember e m.edges → IsMember f m.edges → e.source ≡ f.source → e.target ≡ f.target

abbrev pub ModelsHold : Type 0
ModelsHold =
    (g : Graph) (a : Arena) (s : GameSolution) (m : Structure) (start : ℕ) → EvenWins g a s → IsModelOf g a s m start
    → Extracted g m start

-- ---- which states, and that there is one model

pub data IsMet (a : Arena) (s : GameSolution) : ℕ → Type 0 where
  at_first : IsMet a s 0
  by_move : (v w : ℕ)
      → IsMet a s v
      → HasMove (game_of a) v w
      → (owner_of (game_of a) v ≡ Even → w ≡ choice_at s.choice v)
      → IsMet a s w

abbrev pub StatesAreMet : Type 0
StatesAreMet =
    (g : Graph) (a : Arena) (s : GameSolution) (m : Structure) (start : ℕ) → EvenWins g a s
    → (model : IsModelOf g a s m start) (v : ℕ) (p : Position) → PositionAt a v p
    → IsMember v (map (λ x. x.first) model.states) ↔ (IsMet a s v × (p.choice ≡ []))

abbrev pub OneModel : Type 0
OneModel =
    (g : Graph) (a : Arena) (s : GameSolution) (m n : Structure) (i j : ℕ) → IsModelOf g a s m i → IsModelOf g a s n j
    → (m ≡ n) × (i ≡ j)

abbrev pub SomeModel : Type 0
SomeModel =
    (g : Graph) (a : Arena) (s : GameSolution) → EvenWins g a s
    → (m : Structure) × ((start : ℕ) × (IsModelOf g a s m start × (m.states ≤ length a.positions)))
