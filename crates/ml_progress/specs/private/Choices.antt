-- Winners and choices, as they are read off the measures.
--
--   winner_from a            == Even where Even has a list, and Odd where Even has the top
--   AreWinners g m winners   == so for all vertices, m being the measure of Even
--   IsChoiceFor g p m v w    == w is the first successor to which the move progresses, or the first one where p has the top
--   AreChoices g me mo choices == so for all vertices, with the measure of the owner
--   IsReadOff g me mo s        == both of a solution
--   AreReadOff g me mo m       == m has these measures, and a solution that is read off them
use Rattle.std.specs.Prelude.{ℕ, ◌≡◌, ◌<◌, List, length, get_or, Option, Some, None}
use Rattle.ml_parity.specs.declared.players.Player.{Player}
use Rattle.ml_parity.specs.declared.players.Player.TheVariants.{Even, Odd}
use Rattle.ml_parity.specs.Game.{ParityGame, moves_of, owner_of, size}
use Rattle.ml_parity.specs.Solution.{GameSolution}
use Rattle.ml_progress.specs.Measure.{HasList}
use Rattle.ml_progress.specs.Measure.{Measure, measure_at}
use Rattle.ml_progress.specs.Measured.{IsFirstProgress, MeasuredGame}

-- Even where Even has a list, and Odd where Even has the top
abbrev pub winner_from : Option (List ℕ) → Player
winner_from None = Odd
winner_from (Some xs) = Even

-- so for all vertices
pub record AreWinners (g : ParityGame) (m : Measure) (winners : List Player) : Type 0 where
  pub long : length winners ≡ size g
  pub each : (v : ℕ) → v < size g → get_or winners v Even ≡ winner_from (measure_at m v)

-- w is the first successor to which the move progresses, or the first one where p has the top
pub record IsChoiceFor (g : ParityGame) (p : Player) (m : Measure) (v w : ℕ) : Type 0 where
  pub listed : HasList m v → IsFirstProgress g p m v w
  pub top : measure_at m v ≡ None → w ≡ get_or (moves_of g v) 0 0

-- the measure of a player, of two
abbrev pub measure_for : Player → Measure → Measure → Measure
measure_for Even me mo = me
measure_for Odd me mo = mo

-- so for all vertices, with the measure of the owner
pub record AreChoices (g : ParityGame) (me mo : Measure) (choices : List ℕ) : Type 0 where
  pub long : length choices ≡ size g
  pub each : (v : ℕ) → v < size g
      → IsChoiceFor g (owner_of g v) (measure_for (owner_of g v) me mo) v (get_or choices v 0)

-- the solution is read off the measures of Even and of Odd
pub record IsReadOff (g : ParityGame) (me mo : Measure) (s : GameSolution) : Type 0 where
  pub winners : AreWinners g me s.winner
  pub choices : AreChoices g me mo s.choice

-- m has these measures, and a solution that is read off them
pub record AreReadOff (g : ParityGame) (me mo : Measure) (m : MeasuredGame) : Type 0 where
  pub even_is : m.even ≡ me
  pub odd_is : m.odd ≡ mo
  pub solution : IsReadOff g me mo m.solution
