-- The game over an automaton, as a parity game.
--
-- There are n sets of inputs and m sets of outputs. The positions with inputs come first: the state q with the inputs
-- ins is vertex q * n + ins. Behind them, from `base` on, stand the states with their priorities, numbered as they were
-- met.
--
--   arrival_of x             == the state to which the move x leads, with its priority
--   IsNumberOf base ks a v   == v is the vertex of the arrival a, where ks have numbers
--   AreAnswers               == the vertices to which so many sets of outputs lead
--   AreArrivals              == different arrivals: first the start, and then ends of moves
--   IsAnswered               == arrivals were met, and there are the answers
--   no_vertices              == the game without vertices
--   AreSets                  == the vertices to which so many sets of inputs lead
--   IsKnownAt, IsStateAt     == what a vertex is
--   IsDraft                  == so many vertices are what they should be
--   IsArena                  == all are
use Rattle.std.specs.Prelude.{ℕ, ◌≡◌, ◌+◌, ◌*◌, ◌/◌, ◌%◌, ◌<◌, ◌≤◌, ◌⊎◌, List, [], ◌++◌, length, get_or, slice_get}
use Rattle.std.specs.Prelude.{Some}
use Rattle.ml_lists.specs.Added.{HasOnePlace}
use Rattle.ml_parity.specs.declared.players.Player.TheVariants.{Even, Odd}
use Rattle.ml_parity.specs.Game.{ParityGame, owner_of, priority_of, moves_of, size}
use Rattle.ml_determinise.specs.Numbering.{move_at}
use Rattle.ml_determinise.specs.declared.moves.DetMove.{DetMove}
use Rattle.ml_synthesis.specs.declared.arrival.Arrival.{Arrival}

abbrev pub arrival_of : DetMove → Arrival
arrival_of x = record { state = x.to; priority = x.priority }

abbrev pub begun : ℕ → Arrival
begun neutral = record { state = 0; priority = neutral }

-- an automaton over n * m valuations
pub record AreMoves (n m neutral : ℕ) (moves : List (List DetMove)) : Type 0 where
  pub some : 0 < length moves
  pub sets : 0 < n
  pub answers : 0 < m
  pub a_move_each : (q : ℕ) → q < length moves → length (get_or moves q []) ≡ n * m
  pub leads : (q v : ℕ) → q < length moves → v < n * m → (move_at moves q v).to < length moves
  pub low : (q v : ℕ) → q < length moves → v < n * m → (move_at moves q v).priority ≤ neutral
  pub neutral_even : neutral % 2 ≡ 0

-- ---- arrivals

-- v is the vertex of the arrival a
pub record IsNumberOf (base : ℕ) (ks : List Arrival) (a : Arrival) (v : ℕ) : Type 0 where
  pub place : ℕ
  pub is : v ≡ base + place
  pub stands : slice_get ks place ≡ Some a

-- the vertices to which the first `count` sets of outputs lead from the state q with the inputs ins
pub record AreAnswers (n base : ℕ) (moves : List (List DetMove)) (ks : List Arrival) (q ins count : ℕ) (vs : List ℕ)
    : Type 0 where
  pub one_each : length vs ≡ count
  pub numbers : (outs : ℕ) → outs < count
      → IsNumberOf base ks (arrival_of (move_at moves q (ins + n * outs))) (get_or vs outs 0)

-- some move ends in a
pub record IsEnd (n m : ℕ) (moves : List (List DetMove)) (a : Arrival) : Type 0 where
  pub state : ℕ
  pub letter : ℕ
  pub is_state : state < length moves
  pub is_letter : letter < n * m
  pub is_end : a ≡ arrival_of (move_at moves state letter)

-- the start, and then ends of moves
pub record AreArrivals (n m neutral : ℕ) (moves : List (List DetMove)) (ks : List Arrival) : Type 0 where
  pub begins : slice_get ks 0 ≡ Some (begun neutral)
  pub once : HasOnePlace ks
  pub are_ends : (k : ℕ) (a : Arrival) → slice_get ks k ≡ Some a → (a ≡ begun neutral) ⊎ IsEnd n m moves a

-- behind these answers the arrivals ks are js
pub record IsAnswered (n m base neutral : ℕ) (moves : List (List DetMove)) (ks : List Arrival) (q ins count : ℕ)
    (js : List Arrival) (vs : List ℕ) : Type 0 where
  pub more : List Arrival
  pub grown : js ≡ ks ++ more
  pub few : length js ≤ length ks + count
  pub arrivals : AreArrivals n m neutral moves js
  pub answers : AreAnswers n base moves js q ins count vs

-- ---- vertices

abbrev pub no_vertices : ParityGame
no_vertices = record { owner = []; priority = []; successors = [] }

pub record IsKnownAt (n m base neutral : ℕ) (moves : List (List DetMove)) (ks : List Arrival) (g : ParityGame) (u : ℕ)
    : Type 0 where
  pub owner : owner_of g u ≡ Even
  pub priority : priority_of g u ≡ neutral
  pub answers : AreAnswers n base moves ks (u / n) (u % n) m (moves_of g u)

-- the vertices to which the sets of inputs lead from the state q, the first `count` of them
pub record AreSets (n q count : ℕ) (vs : List ℕ) : Type 0 where
  pub one_each : length vs ≡ count
  pub sets : (ins : ℕ) → ins < count → get_or vs ins 0 ≡ q * n + ins

pub record IsStateAt (n : ℕ) (a : Arrival) (g : ParityGame) (u : ℕ) : Type 0 where
  pub owner : owner_of g u ≡ Odd
  pub priority : priority_of g u ≡ a.priority
  pub sets : AreSets n a.state n (moves_of g u)

-- the first v vertices are what they should be
pub record IsDraft (n m neutral : ℕ) (moves : List (List DetMove)) (ks : List Arrival) (g : ParityGame) (v : ℕ)
    : Type 0 where
  pub owners : size g ≡ v
  pub priorities : length g.priority ≡ v
  pub lists : length g.successors ≡ v
  pub arrivals : AreArrivals n m neutral moves ks
  pub known : (u : ℕ) → u < v → u < length moves * n → IsKnownAt n m (length moves * n) neutral moves ks g u
  pub states : (k : ℕ) (a : Arrival)
      → length moves * n + k < v
      → slice_get ks k ≡ Some a
      → IsStateAt n a g (length moves * n + k)

abbrev pub IsArena : ℕ → ℕ → ℕ → List (List DetMove) → List Arrival → ParityGame → Type 0
IsArena n m neutral moves ks g = IsDraft n m neutral moves ks g (length moves * n + length ks)
