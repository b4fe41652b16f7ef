-- The game of ways.
--
-- It has the vertices of a game with their priorities. A vertex that is claimed for a player belongs to the opponent, and its
-- moves are the ways from it; a vertex without a claim is as it was. So where the first three rules hold, a player wins such a
-- vertex in the game of ways exactly where no cycle that is bad for the player can be reached along ways.
--
--   way_owner o c           == who owns a vertex of o's with this claim or none
--   move_claimed o c        == the move that is claimed, where the owner o is the claimed winner
--   ways_of o c moves       == the moves of such a vertex, if those in the game are these
--   IsWayGame g cs h        == h is the game of ways
--   AreOwners, AreWays      == the owners, and the moves, of its vertices below a number
--   IsLost cs winners v     == v is claimed for a player, and the winner is the opponent
--   LeadsRound cs ws next f n x == x is the lowest vertex of the cycle to which n steps lead from a lost vertex
use Rattle.std.specs.Prelude.{ℕ, ◌≡◌, ◌<◌, List, [], ◌∷◌, length, get_or, Option, Some, None}
use Rattle.ml_parity.specs.declared.players.Player.{Player}
use Rattle.ml_parity.specs.declared.players.Player.TheVariants.{Even, Odd}
use Rattle.ml_parity.specs.Game.{ParityGame, owner_of, moves_of, size}
use Rattle.ml_parity.specs.Player.{opponent}
use Rattle.ml_parity.specs.Solution.{winner_at}
use Rattle.ml_game_check.specs.RightClaims.{Claims, IsClaimed, claim_at}
use Rattle.ml_game_check.specs.private.Cycles.{IsLowestFrom}
use Rattle.ml_game_check.specs.declared.claims.Claim.{Claim}

abbrev pub way_owner : Player → Option Claim → Player
way_owner owner None = owner
way_owner owner (Some c) = opponent c.winner

-- the move, where the owner is the claimed winner
abbrev pub own_move : Player → Player → Option ℕ → Option ℕ
own_move Even Even to = to
own_move Odd Odd to = to
own_move owner winner to = None

abbrev pub move_claimed : Player → Option Claim → Option ℕ
move_claimed owner None = None
move_claimed owner (Some c) = own_move owner c.winner c.move_to

abbrev pub one_or : Option ℕ → List ℕ → List ℕ
one_or (Some w) moves = w ∷ []
one_or None moves = moves

abbrev pub ways_of : Player → Option Claim → List ℕ → List ℕ
ways_of owner o moves = one_or (move_claimed owner o) moves

pub record IsWayGame (g : ParityGame) (cs : Claims) (h : ParityGame) : Type 0 where
  pub sizes : size h ≡ size g
  pub owners : (v : ℕ) → v < size g → owner_of h v ≡ way_owner (owner_of g v) (claim_at cs v)
  pub priorities : h.priority ≡ g.priority
  pub moves : (v : ℕ) → v < size g → moves_of h v ≡ ways_of (owner_of g v) (claim_at cs v) (moves_of g v)

-- what was made of it for the vertices below n, of owners, successors and claims
pub record AreOwners (owners : List Player) (cs : Claims) (made : List Player) (n : ℕ) : Type 0 where
  pub many : length made ≡ n
  pub at : (v : ℕ) → v < n → get_or made v Even ≡ way_owner (get_or owners v Even) (claim_at cs v)

pub record AreWays (owners : List Player) (successors : List (List ℕ)) (cs : Claims) (made : List (List ℕ)) (n : ℕ) : Type 0 where
  pub many : length made ≡ n
  pub at : (v : ℕ) → v < n → get_or made v [] ≡ ways_of (get_or owners v Even) (claim_at cs v) (get_or successors v [])

abbrev pub IsLost : Claims → List Player → ℕ → Type 0
IsLost cs winners v = (p : Player) × IsClaimed cs p v × (winner_at winners v ≡ opponent p)

-- x is the lowest vertex of the cycle to which n steps lead from a lost vertex
pub record LeadsRound (cs : Claims) (winners : List Player) (next f : ℕ → ℕ) (n x : ℕ) : Type 0 where
  pub start : ℕ
  pub is_lost : IsLost cs winners start
  pub lowest : IsLowestFrom next f n start x
