-- Plays, positional strategies, and who wins a vertex.
--
-- A play is a lasso of the game: it stands for the endless play that goes round its loop for ever. A play may begin at
-- any vertex, and may meet a vertex more than once. The lowest priority on the loop decides. A positional strategy is a
-- total function on vertices, with a condition at the vertices of its player alone; a play follows it if each move
-- from such a vertex is the strategy's, the closing move of the loop as well. Nothing is said of who would win a
-- vertex that the game does not have.
--
--   IsPlay g l           == l is a lasso whose steps are moves of g
--   winner g l           == the player for whom the lowest priority on the loop of l is good
--   IsStrategyOf g p s   == s picks a move at each vertex of p's
--   Follows g p s l      == each move of l from a vertex of p's is that of s
--   WinsFrom g p s v     == p is the winner of each play from v that follows s
--   Wins g p v           == some strategy of p's wins from v
use Rattle.std.specs.Prelude.{ℕ, ◌≡◌, ◌+◌, ◌<◌, length, get_or}
use Rattle.ml_lists.specs.Lasso.{Lasso, IsLassoOf, entry, round, lowest_on_loop}
use Rattle.ml_parity.specs.declared.players.Player.{Player}
use Rattle.ml_parity.specs.Player.{side}
use Rattle.ml_parity.specs.Game.{ParityGame, HasMove, owner_of, priority_of, size}

-- l is a lasso whose steps are moves of g
abbrev pub IsPlay : ParityGame → Lasso → Type 0
IsPlay g l = IsLassoOf (HasMove g) l

-- the player for whom the lowest priority on the loop of l is good
abbrev pub winner : ParityGame → Lasso → Player
winner g l = side (lowest_on_loop (priority_of g) l)

-- s picks a move at each vertex of p's
abbrev pub IsStrategyOf : ParityGame → Player → (ℕ → ℕ) → Type 0
IsStrategyOf g p s = (v : ℕ) → v < size g → owner_of g v ≡ p → HasMove g v (s v)

-- each move of l from a vertex of p's is that of s
abbrev pub Follows : ParityGame → Player → (ℕ → ℕ) → Lasso → Type 0
Follows g p s l =
    (k : ℕ) → k < length l.entries → owner_of g (get_or (round l) k 0) ≡ p → get_or (round l) (k + 1) 0 ≡ s (get_or (round l) k 0)

-- p is the winner of each play from v that follows s
abbrev pub WinsFrom : ParityGame → Player → (ℕ → ℕ) → ℕ → Type 0
WinsFrom g p s v = (l : Lasso) → IsPlay g l → entry l 0 ≡ v → Follows g p s l → winner g l ≡ p

-- some strategy of p's wins from v
pub record Wins (g : ParityGame) (p : Player) (v : ℕ) : Type 0 where
  pub strategy : ℕ → ℕ
  pub is_strategy : IsStrategyOf g p strategy
  pub wins : WinsFrom g p strategy v
