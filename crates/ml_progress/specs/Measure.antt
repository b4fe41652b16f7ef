-- Progress measures of a parity game.
--
-- A measure of a player gives each vertex a list of numbers, one for each priority that is bad for the player, or the
-- top, where it has no list. Lists are compared at the first difference, and the lowest priority decides a play, so the
-- number for the lowest bad priority stands first. A move from a vertex looks at the numbers for the bad priorities up
-- to the priority of that vertex alone. Along moves that progress these numbers never rise, and fall at a vertex of bad
-- priority: so no bad priority is the lowest one that is met for ever.
--
--   is_bad p k                  == a lowest priority k is good for the opponent of p
--   bad_priorities g p          == the priorities of the game that are bad for p, ascending, each once
--   how_many g k                == how many vertices have the priority k
--   measure_at m v              == what the measure m gives vertex v: its list, or None for the top
--   Bounded g p xs              == one number for each bad priority, at most the number of vertices that have it
--   IsMeasure g p m             == each vertex has the top or such a list
--   ComesBefore xs ys           == at the first difference the number of xs is the smaller one
--   IsBelow a b                 == the list a comes before the list b, or b alone is the top
--   cut g p v xs                == the numbers of xs for the bad priorities up to the priority of v
--   Progresses g p m v w        == a move from v to w progresses
--   IsProgressMeasure g p m     == some move from each vertex of p progresses, and all moves from the other ones
--   HasList m v                 == the measure does not give vertex v the top
--   IsLeastMeasure g p m        == a progress measure to which no other one is below at any vertex
use Rattle.std.specs.Prelude.{ℕ, ◌≡◌, ◌≢◌, ◌<◌, ◌≤◌, ◌%◌, ◌==◌, nat_le, Bool, true, false, List, length, get_or, take, count_by, Option, Some, None}
use Rattle.std.specs.List.{filter}
use Rattle.ml_lists.specs.Ascending.{ascending}
use Rattle.ml_parity.specs.declared.players.Player.{Player}
use Rattle.ml_parity.specs.declared.players.Player.TheVariants.{Even, Odd}
use Rattle.ml_parity.specs.Player.{opponent}
use Rattle.ml_parity.specs.Game.{ParityGame, HasMove, owner_of, priority_of, size}

-- ---- bad priorities

-- a lowest priority k is good for the opponent of p
abbrev pub is_bad : Player → ℕ → Bool
is_bad Even k = k % 2 == 1
is_bad Odd k = k % 2 == 0

-- the priorities of the game that are bad for p, ascending, each once
abbrev pub bad_priorities : ParityGame → Player → List ℕ
bad_priorities g p = ascending (filter (is_bad p) g.priority)

-- how many vertices have the priority k
abbrev pub how_many : ParityGame → ℕ → ℕ
how_many g k = count_by (λ n. n == k) g.priority

-- ---- measures

-- a list for each vertex, or the top
abbrev pub Measure : Type 0
Measure = List (Option (List ℕ))

-- what the measure gives vertex v
abbrev pub measure_at : Measure → ℕ → Option (List ℕ)
measure_at m v = get_or m v None

-- one number for each bad priority, at most the number of vertices that have it
pub record Bounded (g : ParityGame) (p : Player) (xs : List ℕ) : Type 0 where
  pub long : length xs ≡ length (bad_priorities g p)
  pub low : (i : ℕ) → i < length xs → get_or xs i 0 ≤ how_many g (get_or (bad_priorities g p) i 0)

-- each vertex has the top or such a list
pub record IsMeasure (g : ParityGame) (p : Player) (m : Measure) : Type 0 where
  pub vertices : length m ≡ size g
  pub lists : (v : ℕ) (xs : List ℕ) → v < size g → measure_at m v ≡ Some xs → Bounded g p xs

-- ---- the order

-- at the first difference the number of xs is the smaller one
pub record ComesBefore (xs ys : List ℕ) : Type 0 where
  pub place : ℕ
  pub within : place < length xs
  pub same : (i : ℕ) → i < place → get_or xs i 0 ≡ get_or ys i 0
  pub smaller : get_or xs place 0 < get_or ys place 0

-- the list a comes before the list b, or b alone is the top
abbrev pub IsBelow : Option (List ℕ) → Option (List ℕ) → Type 0
IsBelow None b = ⊥
IsBelow (Some xs) None = Unit {0}
IsBelow (Some xs) (Some ys) = ComesBefore xs ys

-- ---- progress

-- the numbers for the bad priorities up to the priority of v
abbrev pub cut : ParityGame → Player → ℕ → List ℕ → List ℕ
cut g p v xs = take (count_by (λ k. nat_le k (priority_of g v)) (bad_priorities g p)) xs

-- of two cut lists the first does not come before the second; where the priority is bad, the second comes before it
abbrev pub Falls : Bool → List ℕ → List ℕ → Type 0
Falls false xs ys = ¬ (ComesBefore xs ys)
Falls true xs ys = ComesBefore ys xs

-- a move from v to w progresses, where the one has a and the other b
abbrev pub ProgressesFrom : ParityGame → Player → ℕ → Option (List ℕ) → Option (List ℕ) → Type 0
ProgressesFrom g p v None b = Unit {0}
ProgressesFrom g p v (Some xs) None = ⊥
ProgressesFrom g p v (Some xs) (Some ys) = Falls (is_bad p (priority_of g v)) (cut g p v xs) (cut g p v ys)

-- a move from v to w progresses
abbrev pub Progresses : ParityGame → Player → Measure → ℕ → ℕ → Type 0
Progresses g p m v w = ProgressesFrom g p v (measure_at m v) (measure_at m w)

-- some move from v progresses
pub record SomeProgress (g : ParityGame) (p : Player) (m : Measure) (v : ℕ) : Type 0 where
  pub to : ℕ
  pub move : HasMove g v to
  pub progresses : Progresses g p m v to

-- some move from each vertex of p progresses, and all moves from the other vertices
pub record IsProgressMeasure (g : ParityGame) (p : Player) (m : Measure) : Type 0 where
  pub measure : IsMeasure g p m
  pub own : (v : ℕ) → v < size g → owner_of g v ≡ p → SomeProgress g p m v
  pub other : (v w : ℕ) → v < size g → owner_of g v ≡ opponent p → HasMove g v w → Progresses g p m v w

-- a progress measure to which no other one is below at any vertex
pub record IsLeastMeasure (g : ParityGame) (p : Player) (m : Measure) : Type 0 where
  pub progress : IsProgressMeasure g p m
  pub least : (n : Measure)
      → IsProgressMeasure g p n
      → (v : ℕ)
      → v < size g
      → ¬ (IsBelow (measure_at n v) (measure_at m v))

-- the measure does not give vertex v the top
abbrev pub HasList : Measure → ℕ → Type 0
HasList m v = measure_at m v ≢ None
