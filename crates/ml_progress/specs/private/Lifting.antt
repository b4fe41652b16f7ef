-- Lifting: how a measure rises to the least progress measure.
--
-- A measure begins low, below all progress measures, and stays there: a vertex is given at most the least value with
-- which its moves progress, in what its successors have. A vertex whose moves progress is settled, until a successor rises.
--
--   Furthest least a b         == a is at most b, or at least b where `least` is false
--   IsFurther least a b        == a is below b, or above b where `least` is false
--   IsExtreme least c bs m w v == v has the least cut level of these vertices, or the greatest one
--   IsLow g p m                == the measure is within its bounds, and at no vertex above any progress measure
--   NamesWinners g winner      == the list names a winner of each vertex
--   IsSettled g p m v          == the moves from v progress as they have to
--   IsLifted g p m n v r       == n is m with v lifted, and r says whether v rose
--   room g p m                 == how often vertices can still rise
use Rattle.std.specs.Prelude.{ℕ, zero, suc, ◌≡◌, ◌+◌, ◌-◌, ◌<◌, ◌≤◌, ◌⊎◌, Bool, true, false, List, length, get_or, Option, Contains}
use Rattle.ml_parity.specs.declared.players.Player.{Player}
use Rattle.ml_parity.specs.Player.{opponent}
use Rattle.ml_parity.specs.Game.{ParityGame, HasMove, owner_of, priority_of, size}
use Rattle.ml_parity.specs.Solution.{winner_at}
use Rattle.ml_parity.specs.Winner.{Wins}
use Rattle.ml_progress.specs.Measure.{Measure, IsProgressMeasure, is_bad, measure_at}
use Rattle.ml_progress.specs.private.Bounds.{bounds_of, cut_length, level_of, StepsAlong}
use Rattle.ml_progress.specs.private.Codes.{FitsIn, IsTarget, cut_level, space}
use Rattle.ml_progress.specs.private.Tables.{IsRaised}

-- a is at most b, or at least b
abbrev pub Furthest : Bool → ℕ → ℕ → Type 0
Furthest true a b = a ≤ b
Furthest false a b = b ≤ a

-- a is below b, or above b
abbrev pub IsFurther : Bool → ℕ → ℕ → Type 0
IsFurther true a b = a < b
IsFurther false a b = b < a

-- v has the least cut level of these vertices, or the greatest one
abbrev pub IsExtreme : Bool → ℕ → List ℕ → Measure → List ℕ → ℕ → Type 0
IsExtreme least c bs m vertices v =
    (x : ℕ) → Contains vertices x → Furthest least (cut_level c bs (measure_at m v)) (cut_level c bs (measure_at m x))

-- all that a measure has is within the bounds
abbrev pub AreFitting : List ℕ → Measure → Type 0
AreFitting bs m = (v : ℕ) → v < length m → FitsIn bs (measure_at m v)

-- the measure is within its bounds, and at no vertex above any progress measure
pub record IsLow (g : ParityGame) (p : Player) (m : Measure) : Type 0 where
  pub vertices : length m ≡ size g
  pub fits : AreFitting (bounds_of g p) m
  pub low : (n : Measure) → IsProgressMeasure g p n → (v : ℕ) → v < size g → level_of g p m v ≤ level_of g p n v

-- the list names a winner of each vertex
pub record NamesWinners (g : ParityGame) (winner : List Player) : Type 0 where
  pub long : length winner ≡ size g
  pub right : (v : ℕ) → v < size g → Wins g (winner_at winner v) v

-- some move from v progresses
pub record SomeStep (g : ParityGame) (p : Player) (m : Measure) (v : ℕ) : Type 0 where
  pub to : ℕ
  pub move : HasMove g v to
  pub steps : StepsAlong g p m v to

-- the moves from v progress as they have to
pub record IsSettled (g : ParityGame) (p : Player) (m : Measure) (v : ℕ) : Type 0 where
  pub own : owner_of g v ≡ p → SomeStep g p m v
  pub other : owner_of g v ≡ opponent p → (w : ℕ) → HasMove g v w → StepsAlong g p m v w

-- n is m with v lifted, and r says whether v rose
pub record IsLifted (g : ParityGame) (p : Player) (m n : Measure) (v : ℕ) (r : Bool) : Type 0 where
  pub chosen : ℕ
  pub move : HasMove g v chosen
  pub own : owner_of g v ≡ p → (x : ℕ) → HasMove g v x
      → cut_level (cut_length g p v) (bounds_of g p) (measure_at m chosen)
      ≤ cut_level (cut_length g p v) (bounds_of g p) (measure_at m x)
  pub other : owner_of g v ≡ opponent p → (x : ℕ) → HasMove g v x
      → cut_level (cut_length g p v) (bounds_of g p) (measure_at m x)
      ≤ cut_level (cut_length g p v) (bounds_of g p) (measure_at m chosen)
  pub target : Option (List ℕ)
  pub is_target : IsTarget (cut_length g p v) (bounds_of g p) (is_bad p (priority_of g v)) (measure_at m chosen) target
  pub raised : IsRaised target m n v r

-- the sum of the first n values
abbrev pub total : (ℕ → ℕ) → ℕ → ℕ
total f zero = 0
total f (suc n) = total f n + f n

-- how often vertices can still rise
abbrev pub room : ParityGame → Player → Measure → ℕ
room g p m = total (λ v. space (bounds_of g p) - level_of g p m v) (size g)

-- each vertex is settled, or flagged
abbrev pub SettledOrFlagged : ParityGame → Player → Measure → List Bool → Type 0
SettledOrFlagged g p m flags = (v : ℕ) → v < size g → (get_or flags v false ≡ true) ⊎ IsSettled g p m v
