-- The decision game as a list of positions, and as a parity game.
--
-- An arena has positions, each with its owner and its moves as vertices of a parity game: the positions by their places,
-- and behind them Lost and Won, which lead to themselves alone. It is the game of a graph if its positions are those that
-- are reached, each once, and the start is the first.
--
--   Arena               == positions, owners, moves
--   place_of ps p i     == p stands at place i of ps
--   AreVertices ps ts vs == the vertices vs are those of the targets ts
--   IsArenaOf g a       == a is the decision game of g
--   game_of a           == the parity game of a
use Rattle.std.specs.Prelude.{ℕ, ◌≡◌, ◌↔◌, ◌+◌, List, [], ◌∷◌, ◌++◌, map, length, slice_get, get_or, Some}
use Rattle.ml_lists.specs.Member.{IsMember}
use Rattle.ml_graph.specs.Graph.{Graph}
use Rattle.ml_parity.specs.declared.players.Player.{Player}
use Rattle.ml_parity.specs.declared.players.Player.TheVariants.{Even}
use Rattle.ml_parity.specs.Game.{ParityGame}
use Rattle.ml_product.specs.Position.{Position, start_of}
use Rattle.ml_product.specs.DecisionGame.{Target, To, Lost, Won, Turn, IsReached, AreDifferent}
use Rattle.ml_product.specs.Movers.{mover}

pub record Arena : Type 0 where
  pub positions : List Position
  pub owners : List Player
  pub moves : List (List ℕ)

abbrev pub IsVertexOf : List Position → Target → ℕ → Type 0
IsVertexOf positions (To p) v = slice_get positions v ≡ Some p
IsVertexOf positions Lost v = v ≡ length positions
IsVertexOf positions Won v = v ≡ length positions + 1

-- one vertex for each target, in their order
abbrev pub AreVertices : List Position → List Target → List ℕ → Type 0
AreVertices positions [] vertices = vertices ≡ []
AreVertices positions (t ∷ targets) vertices =
    (v : ℕ) × (others : List ℕ) × IsVertexOf positions t v × AreVertices positions targets others × (vertices ≡ v ∷ others)

-- the owner and the moves of a position are those of its turn
pub record IsPlayed (g : Graph) (positions : List Position) (p : Position) (owner : Player) (moves : List ℕ) : Type 0 where
  pub turn : Turn g p
  pub owner_is : owner ≡ mover turn.verdict
  pub moves_are : AreVertices positions turn.targets moves

pub record IsArenaOf (g : Graph) (a : Arena) : Type 0 where
  pub starts : slice_get a.positions 0 ≡ Some (start_of g)
  pub are_different : AreDifferent a.positions
  pub are_reached : (p : Position) → IsMember p a.positions ↔ IsReached g p
  pub an_owner_each : length a.owners ≡ length a.positions
  pub moves_each : length a.moves ≡ length a.positions
  pub played : (v : ℕ) (p : Position) → slice_get a.positions v ≡ Some p
      → IsPlayed g a.positions p (get_or a.owners v Even) (get_or a.moves v [])

abbrev pub game_of : Arena → ParityGame
game_of a = record {
  owner = a.owners ++ Even ∷ Even ∷ [];
  priority = map (λ p. p.priority) a.positions ++ 1 ∷ 0 ∷ [];
  successors = a.moves ++ (length a.positions ∷ []) ∷ ((length a.positions + 1) ∷ []) ∷ [];
}
