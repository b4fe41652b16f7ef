-- A solution as claims.
--
--   solution ws xs          == the solution with these winners and choices
--   AreClaimsOf ws xs cs    == the claims cs name these winners, with these choices as moves
--   IsFilledAt g ws xs v    == the choice at v is a move, and the first one where the owner isn't the winner
--   Solves g ws xs          == the winners and choices are a solution, with first moves elsewhere
use Rattle.std.specs.Prelude.{ℕ, ◌≡◌, ◌≢◌, ◌<◌, List, length, get_or, Some}
use Rattle.ml_parity.specs.declared.players.Player.{Player}
use Rattle.ml_parity.specs.Game.{ParityGame, HasMove, moves_of, owner_of}
use Rattle.ml_parity.specs.Solution.{GameSolution, FirstElsewhere, IsSolution, choice_at, winner_at}
use Rattle.ml_game_check.specs.RightClaims.{Claims, claim, claim_at}

abbrev pub solution : List Player → List ℕ → GameSolution
solution ws xs = record { winner = ws; choice = xs }

pub record AreClaimsOf (ws : List Player) (xs : List ℕ) (cs : Claims) : Type 0 where
  pub many : length cs ≡ length ws
  pub at : (v : ℕ) → v < length ws → claim_at cs v ≡ Some (claim (winner_at ws v) (Some (choice_at xs v)))

pub record IsFilledAt (g : ParityGame) (ws : List Player) (xs : List ℕ) (v : ℕ) : Type 0 where
  pub moves : HasMove g v (choice_at xs v)
  pub first : owner_of g v ≢ winner_at ws v → choice_at xs v ≡ get_or (moves_of g v) 0 0

abbrev pub Solves : ParityGame → List Player → List ℕ → Type 0
Solves g ws xs = IsSolution g (solution ws xs) × FirstElsewhere g (solution ws xs)
