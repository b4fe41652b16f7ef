-- Solutions of a parity game.
--
-- A solution tells the winner of each vertex, and a move for each: at a vertex whose owner wins it, this is the move
-- of a positional strategy with which the winner wins from every vertex that the solution gives to that player. At a
-- vertex whose owner does not win it, the choice is some move, and no matter which.
--
--   GameSolution       == two lists: the winners, and the choices
--   winner_at win v    == who wins vertex v by a list of winners
--   choice_at choice v == the move at vertex v by a list of choices
--   IsSolution g s     == s names the winners of g, and its choices win for each player from that player's vertices
--   FirstElsewhere g s == at a vertex whose owner does not win it, the choice is the first successor
use Rattle.std.specs.Prelude.{ℕ, ◌≡◌, ◌≢◌, ◌<◌, List, length, get_or}
use Rattle.ml_parity.specs.declared.players.Player.{Player}
use Rattle.ml_parity.specs.declared.players.Player.TheVariants.{Even}
use Rattle.ml_parity.specs.Game.{ParityGame, size, owner_of, moves_of}
use Rattle.ml_parity.specs.Winner.{IsStrategyOf, WinsFrom, Wins}

-- the winners, and the choices
pub record GameSolution : Type 0 where
  pub winner : List Player
  pub choice : List ℕ

-- who wins vertex v by a list of winners
abbrev pub winner_at : List Player → ℕ → Player
winner_at win v = get_or win v Even

-- the move at vertex v by a list of choices
abbrev pub choice_at : List ℕ → ℕ → ℕ
choice_at choice v = get_or choice v 0

-- s names the winner of each vertex, and its choices win for each player from all vertices of that player
pub record IsSolution (g : ParityGame) (s : GameSolution) : Type 0 where
  pub winners : length s.winner ≡ size g
  pub choices : length s.choice ≡ size g
  pub strategies : (p : Player) → IsStrategyOf g p (choice_at s.choice)
  pub right : (v : ℕ) → v < size g → Wins g (winner_at s.winner v) v
  pub wins : (v : ℕ) → v < size g → WinsFrom g (winner_at s.winner v) (choice_at s.choice) v

-- at a vertex whose owner does not win it, the choice is the first successor
abbrev pub FirstElsewhere : ParityGame → GameSolution → Type 0
FirstElsewhere g s = (v : ℕ) → v < size g → owner_of g v ≢ winner_at s.winner v → choice_at s.choice v ≡ get_or (moves_of g v) 0 0
