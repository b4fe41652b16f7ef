-- The least progress measure of a player tells which vertices the player wins.
--
-- The laws are about the definitions alone, and about games of any number of vertices.
--
--   MeasureLaw      == the least measure of a player has a list exactly where the player wins
--   SomeMeasured    == each game has least measures of both players, and a solution that they tell
--   OneLeastMeasure == a player has one least measure
--   TellsTheSame g m n == m and n have the same measures and winners, and the same moves where the owner wins
--   OneMeasured     == so the measures of a game tell one solution, but for moves elsewhere
use Rattle.std.specs.Prelude.{ℕ, ◌≡◌, ◌<◌, ◌↔◌}
use Rattle.ml_parity.specs.declared.players.Player.{Player}
use Rattle.ml_parity.specs.Game.{ParityGame, IsGame, owner_of, size}
use Rattle.ml_parity.specs.Solution.{choice_at, winner_at}
use Rattle.ml_parity.specs.Winner.{Wins}
use Rattle.ml_progress.specs.Measure.{HasList, IsLeastMeasure, Measure}
use Rattle.ml_progress.specs.Measured.{MeasuredGame, IsMeasured}

-- the least measure of a player has a list exactly where the player wins
abbrev pub MeasureLaw : Type 0
MeasureLaw =
    (g : ParityGame) → IsGame g → (p : Player) (m : Measure) → IsLeastMeasure g p m
    → (v : ℕ) → v < size g → HasList m v ↔ Wins g p v

-- each game has least measures of both players, with a solution that they tell
abbrev pub SomeMeasured : Type 0
SomeMeasured = (g : ParityGame) → IsGame g → (m : MeasuredGame) × IsMeasured g m

-- a player has one least measure
abbrev pub OneLeastMeasure : Type 0
OneLeastMeasure =
    (g : ParityGame) (p : Player) (m n : Measure) → IsLeastMeasure g p m → IsLeastMeasure g p n → m ≡ n

-- m and n have the same measures and winners, and the same moves where the owner wins
pub record TellsTheSame (g : ParityGame) (m n : MeasuredGame) : Type 0 where
  pub even : m.even ≡ n.even
  pub odd : m.odd ≡ n.odd
  pub winners : m.solution.winner ≡ n.solution.winner
  pub moves : (v : ℕ) → v < size g
      → owner_of g v ≡ winner_at m.solution.winner v
      → choice_at m.solution.choice v ≡ choice_at n.solution.choice v

-- the measures of a game tell one solution, but for moves elsewhere
abbrev pub OneMeasured : Type 0
OneMeasured = (g : ParityGame) (m n : MeasuredGame) → IsMeasured g m → IsMeasured g n → TellsTheSame g m n
