-- What is recorded of a position while the game is explored.
--
-- Where Lost and Won will stand among the vertices is known at the end alone, when there are no new positions: they stand
-- behind all positions.
--
--   owner_of r         == who moves where r was recorded
--   moves_of n r       == the moves, where there are n positions
--   IsVertexAt n ps t v     == v is the vertex of the target t, where ps are the positions so far, and n there will be
--   AreVerticesAt n ps ts vs == vs are those of the targets ts
--   IsLike r s         == r says what s says
--   IsRecorded g ps p r == the owner and the moves of p are those of its turn, whatever number of positions there will be
use Rattle.std.specs.Prelude.{ℕ, ◌≡◌, ◌+◌, List, [], ◌∷◌, slice_get, Some}
use Rattle.ml_graph.specs.Graph.{Graph}
use Rattle.ml_parity.specs.declared.players.Player.{Player}
use Rattle.ml_parity.specs.declared.players.Player.TheVariants.{Even, Odd}
use Rattle.ml_product.specs.declared.recorded.Recorded.{Recorded}
use Rattle.ml_product.specs.declared.recorded.Recorded.TheVariants as recorded
use Rattle.ml_product.specs.Position.{Position}
use Rattle.ml_product.specs.DecisionGame.{Target, To, Lost, Won, Turn}
use Rattle.ml_product.specs.Movers.{mover}

-- who moves
abbrev pub owner_of : Recorded → Player
owner_of recorded.Waiting = Even
owner_of recorded.Lost = Even
owner_of recorded.Won = Even
owner_of (recorded.Chosen sides) = Even
owner_of (recorded.Led moves) = Odd

-- the moves, where there are n positions
abbrev pub moves_of : ℕ → Recorded → List ℕ
moves_of n recorded.Waiting = []
moves_of n recorded.Lost = n ∷ []
moves_of n recorded.Won = (n + 1) ∷ []
moves_of n (recorded.Chosen sides) = sides
moves_of n (recorded.Led moves) = moves.items

-- v is the vertex of the target
abbrev pub IsVertexAt : ℕ → List Position → Target → ℕ → Type 0
IsVertexAt n positions (To p) v = slice_get positions v ≡ Some p
IsVertexAt n positions Lost v = v ≡ n
IsVertexAt n positions Won v = v ≡ n + 1

-- one vertex for each target, in their order
abbrev pub AreVerticesAt : ℕ → List Position → List Target → List ℕ → Type 0
AreVerticesAt n positions [] vertices = vertices ≡ []
AreVerticesAt n positions (t ∷ targets) vertices =
    (v : ℕ) × (others : List ℕ) × IsVertexAt n positions t v × AreVerticesAt n positions targets others
    × (vertices ≡ v ∷ others)

-- the owner and the moves of a position are those of its turn
pub record IsRecorded (g : Graph) (positions : List Position) (p : Position) (r : Recorded) : Type 0 where
  pub turn : Turn g p
  pub owner_is : owner_of r ≡ mover turn.verdict
  pub moves_are : (n : ℕ) → AreVerticesAt n positions turn.targets (moves_of n r)

-- r says what s says
pub record IsLike (r s : Recorded) : Type 0 where
  pub owner_is : owner_of r ≡ owner_of s
  pub moves_are : (n : ℕ) → moves_of n r ≡ moves_of n s
  pub waits : r ≡ recorded.Waiting → s ≡ recorded.Waiting
