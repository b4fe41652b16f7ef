-- What the measures of both players and a solution say together.
--
--   MeasuredGame            == the measures of Even and of Odd, and a solution
--   measure_in entries      == the measure that vectors hold
--   measure_of m p          == the measure of player p
--   IsTold g m              == at each vertex the winner is the player whose measure isn't the top there
--   IsFirstProgress g p m v w == w is the first successor in the list of v to which the move progresses
--   IsMeasured g m          == all of it, with the least measures
--   FirstProgressing g m    == at a vertex whose owner wins it, the choice is that successor in the owner's measure
use Rattle.std.specs.Prelude.{ℕ, ◌≡◌, ◌<◌, ◌↔◌, List, length, get_or, map, Option, Some, None}
use Rattle.std.specs.Global.{Vec}
use Rattle.ml_lists.specs.Search.{IsFirst}
use Rattle.ml_parity.specs.declared.players.Player.{Player}
use Rattle.ml_parity.specs.declared.players.Player.TheVariants.{Even, Odd}
use Rattle.ml_parity.specs.Game.{ParityGame, owner_of, moves_of, size}
use Rattle.ml_parity.specs.Solution.{GameSolution, IsSolution, winner_at, choice_at}
use Rattle.ml_progress.specs.Measure.{IsLeastMeasure, Measure, Progresses}
use Rattle.ml_progress.specs.Measure.{HasList}

-- the measures of Even and of Odd, and a solution
pub record MeasuredGame : Type 0 where
  pub even : Measure
  pub odd : Measure
  pub solution : GameSolution

-- the list that a vector holds, if there is one
abbrev pub list_in : Option (Vec ℕ) → Option (List ℕ)
list_in None = None
list_in (Some xs) = Some xs.items

-- the measure that vectors hold
abbrev pub measure_in : List (Option (Vec ℕ)) → Measure
measure_in entries = map list_in entries

-- the measure of a player
abbrev pub measure_of : MeasuredGame → Player → Measure
measure_of m Even = m.even
measure_of m Odd = m.odd

-- at each vertex the winner is the player whose measure isn't the top there
abbrev pub IsTold : ParityGame → MeasuredGame → Type 0
IsTold g m = (v : ℕ) (p : Player) → v < size g → (winner_at m.solution.winner v ≡ p) ↔ HasList (measure_of m p) v

-- w is the first successor in the list of v to which the move progresses
pub record IsFirstProgress (g : ParityGame) (p : Player) (m : Measure) (v w : ℕ) : Type 0 where
  pub place : ℕ
  pub first : IsFirst (λ k. Progresses g p m v (get_or (moves_of g v) k 0)) (length (moves_of g v)) place
  pub there : w ≡ get_or (moves_of g v) place 0

-- at a vertex whose owner wins it, the choice is that successor in the owner's measure
abbrev pub FirstProgressing : ParityGame → MeasuredGame → Type 0
FirstProgressing g m =
    (v : ℕ) → v < size g → owner_of g v ≡ winner_at m.solution.winner v
    → IsFirstProgress g (owner_of g v) (measure_of m (owner_of g v)) v (choice_at m.solution.choice v)

-- both measures are the least ones, and they tell the solution, with first progressing moves
pub record IsMeasured (g : ParityGame) (m : MeasuredGame) : Type 0 where
  pub even : IsLeastMeasure g Even m.even
  pub odd : IsLeastMeasure g Odd m.odd
  pub solution : IsSolution g m.solution
  pub told : IsTold g m
  pub first : FirstProgressing g m
