-- What right claims are good for.
--
--   Makes g cs p s        == the strategy s makes the moves that are claimed for p
--   RightAreWon           == where claims are right, vertices are won as they say, and their moves win
--   claims_of g s         == the claims of a solution: a winner for each vertex, and the move where the owner is the winner
--   SolutionsAreRight     == the claims of a solution are right
--   SomeVerdict           == for claims about a game, one for each vertex at most, there is a verdict
--   OneVerdict            == and one alone, but for the vertex that is named with the fourth rule
use Rattle.std.specs.Prelude.{ℕ, ◌≡◌, ◌<◌, ◌⊎◌, length, map, Option, Some, None}
use Rattle.std.specs.List.{range_with_len}
use Rattle.ml_parity.specs.declared.players.Player.{Player}
use Rattle.ml_parity.specs.declared.players.Player.TheVariants.{Even, Odd}
use Rattle.ml_parity.specs.Game.{ParityGame, IsGame, owner_of, size}
use Rattle.ml_parity.specs.Solution.{GameSolution, IsSolution, choice_at, winner_at}
use Rattle.ml_parity.specs.Winner.{WinsFrom, Wins}
use Rattle.ml_game_check.specs.RightClaims.{AreRight, Claims, IsClaimed, IsMoved, claim}
use Rattle.ml_game_check.specs.Verdicts.{IsVerdict}
use Rattle.ml_game_check.specs.declared.claims.Claim.{Claim}
use Rattle.ml_game_check.specs.declared.verdict.Rule.TheVariants.{NoBadCycle}
use Rattle.ml_game_check.specs.declared.verdict.Verdict.{Verdict}
use Rattle.ml_game_check.specs.declared.verdict.Verdict.TheVariants.{Broken}

abbrev pub Makes : ParityGame → Claims → Player → (ℕ → ℕ) → Type 0
Makes g cs p s = (v w : ℕ) → owner_of g v ≡ p → IsMoved cs p v w → s v ≡ w

abbrev pub RightAreWon : Type 0
RightAreWon =
    (g : ParityGame) (cs : Claims) → IsGame g → AreRight g cs
    → (p : Player) (v : ℕ) → v < size g → IsClaimed cs p v
    → Wins g p v × ((s : ℕ → ℕ) → Makes g cs p s → WinsFrom g p s v)

-- the move, where the owner is the winner
abbrev pub move_of : Player → Player → ℕ → Option ℕ
move_of Even Even w = Some w
move_of Odd Odd w = Some w
move_of owner winner w = None

abbrev pub claim_of : ParityGame → GameSolution → ℕ → Option Claim
claim_of g s v =
    Some (claim (winner_at s.winner v) (move_of (owner_of g v) (winner_at s.winner v) (choice_at s.choice v)))

abbrev pub claims_of : ParityGame → GameSolution → Claims
claims_of g s = map (claim_of g s) (range_with_len 0 (size g))

abbrev pub SolutionsAreRight : Type 0
SolutionsAreRight = (g : ParityGame) (s : GameSolution) → IsGame g → IsSolution g s → AreRight g (claims_of g s)

abbrev pub SomeVerdict : Type 0
SomeVerdict = (g : ParityGame) (cs : Claims) → IsGame g → length cs ≡ size g → (answer : Verdict) × IsVerdict g cs answer

abbrev pub NamesFour : Verdict → Type 0
NamesFour answer = (v : ℕ) × (answer ≡ Broken v NoBadCycle)

abbrev pub OneVerdict : Type 0
OneVerdict =
    (g : ParityGame) (cs : Claims) (a b : Verdict) → IsVerdict g cs a → IsVerdict g cs b
    → (a ≡ b) ⊎ (NamesFour a × NamesFour b)
