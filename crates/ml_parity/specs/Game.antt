-- Parity games, as lists.
--
-- A game has vertices 0 to n - 1: an owner, a priority and a list of successors for each. That each vertex has a
-- successor is part of what a game is, so that no play gets stuck. A list of successors may name a vertex twice. The
-- game without vertices is a game. Owner, priority and moves are functions on all numbers, with a fixed value past the
-- last vertex, where nobody asks: there are no moves there.
--
--   ParityGame      == three lists: owners, priorities, successors
--   size g          == how many vertices
--   owner_of g v, priority_of g v, moves_of g v == of vertex v: the owner, the priority, the list of successors
--   HasMove g v w   == w is a successor of v
--   IsGame g        == the lists have one length, each vertex has a successor, and all successors are vertices
use Rattle.std.specs.Prelude.{ℕ, ◌≡◌, ◌<◌, List, [], length, get_or, Contains}
use Rattle.ml_parity.specs.declared.players.Player.{Player}
use Rattle.ml_parity.specs.declared.players.Player.TheVariants.{Even}

-- the owners, the priorities and the successors of the vertices
pub record ParityGame : Type 0 where
  pub owner : List Player
  pub priority : List ℕ
  pub successors : List (List ℕ)

-- how many vertices the game has
abbrev pub size : ParityGame → ℕ
size g = length g.owner

-- who owns vertex v
abbrev pub owner_of : ParityGame → ℕ → Player
owner_of g v = get_or g.owner v Even

-- the priority of vertex v
abbrev pub priority_of : ParityGame → ℕ → ℕ
priority_of g v = get_or g.priority v 0

-- the successors of vertex v
abbrev pub moves_of : ParityGame → ℕ → List ℕ
moves_of g v = get_or g.successors v []

-- w is a successor of v
abbrev pub HasMove : ParityGame → ℕ → ℕ → Type 0
HasMove g v w = Contains (moves_of g v) w

-- the lists have one length, each vertex has a successor, and all successors are vertices
pub record IsGame (g : ParityGame) : Type 0 where
  pub priorities : length g.priority ≡ size g
  pub lists : length g.successors ≡ size g
  pub goes_on : (v : ℕ) → v < size g → 0 < length (moves_of g v)
  pub in_range : (v w : ℕ) → HasMove g v w → w < size g
