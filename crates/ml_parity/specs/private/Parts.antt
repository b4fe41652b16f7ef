-- Parts of a board, attractors in them, and the two halves of a turn of the fast solver. Only private contracts and
-- proofs cite what stands here.
--
-- The vertices stand in a row: each has a place. A part is an initial segment of the row, so a number says which. All
-- that stands behind a part is decided; the map of winners tells for whom. To remove vertices from a part is to move
-- them to its end and to take a smaller number. Within an attractor each move that is followed leads to a greater place,
-- so the row itself is the rank.
--
--   part place n v        == v stands in the part n
--   SolvesPart            == winners and choices solve the part: what stands behind it is a sink of its winner
--   MoveInto b place n v  == some move leads from v into the part n
--   IsPart                == a move out of the part leads to where the opponent of the owner wins, and some move stays
--   IsAttracted b place n mid rest q s == of the part n, the vertices behind rest are the attractor of q to those behind
--                            mid; the choices lead there
--   IsGiven place rest n win q == q wins the vertices of the part n behind rest
--   IsFirm                == the vertices of the part n behind mid are q's for good: q keeps to them, or to what q won
--                            behind the part, and their loops are good for q
--   IsFirstHalf           == behind mid stand the vertices of lowest priority, which is good for q; the attractor is q's
--   IsSecondHalf          == behind mid stands what is firm for q; the attractor is q's
--   Gathers place place2 n mid P == the vertices of the part n that have P are moved to its end, behind mid
--   KeepsBehind           == places, winners and choices are the same behind the part n, which has the same vertices
use Rattle.std.specs.Prelude.{ℕ, ◌≡◌, ◌<◌, ◌≤◌, Bool, nat_lt}
use Rattle.ml_parity.specs.declared.players.Player.{Player}
use Rattle.ml_parity.specs.Player.{opponent, side}
use Rattle.ml_parity.specs.private.Sinks.{Board, Loop, GoodFor, Solves}

-- v stands in the part n
abbrev pub part : (ℕ → ℕ) → ℕ → ℕ → Bool
part place n v = nat_lt (place v) n

-- winners and choices solve the part; what stands behind it is a sink of its winner
abbrev pub SolvesPart : Board → (ℕ → ℕ) → ℕ → (ℕ → Player) → (ℕ → ℕ) → Type 0
SolvesPart b place n win s = Solves b (part place n) win win s

-- some move leads from v into the part n
pub record MoveInto (b : Board) (place : ℕ → ℕ) (n v : ℕ) : Type 0 where
  pub to : ℕ
  pub move : b.Move v to
  pub inside : place to < n

-- a move out of the part leads to where the opponent of the owner wins, and some move stays in the part
pub record IsPart (b : Board) (place : ℕ → ℕ) (n : ℕ) (win : ℕ → Player) : Type 0 where
  pub leaves : (v w : ℕ) → place v < n → b.Move v w → n ≤ place w → win w ≡ opponent (b.owner v)
  pub stays : (v : ℕ) → place v < n → MoveInto b place n v

-- the move from v to w leads further back in the part n
pub record LeadsBack (b : Board) (place : ℕ → ℕ) (n v w : ℕ) : Type 0 where
  pub move : b.Move v w
  pub behind : place v < place w
  pub inside : place w < n

-- of the part n, the vertices behind rest are the attractor of q to those behind mid, and the choices lead there
pub record IsAttracted (b : Board) (place : ℕ → ℕ) (n mid rest : ℕ) (q : Player) (s : ℕ → ℕ) : Type 0 where
  pub low : rest ≤ mid
  pub high : mid ≤ n
  pub own : (v : ℕ) → rest ≤ place v → place v < mid → b.owner v ≡ q → LeadsBack b place n v (s v)
  pub other : (v w : ℕ) → rest ≤ place v → place v < mid → b.owner v ≡ opponent q → b.Move v w → place w < n → place v < place w
  pub closed_own : (v w : ℕ) → place v < rest → b.owner v ≡ q → b.Move v w → place w < n → place w < rest
  pub closed_other : (v : ℕ) → place v < rest → b.owner v ≡ opponent q → MoveInto b place rest v

-- q wins the vertices of the part n behind rest
abbrev pub IsGiven : (ℕ → ℕ) → ℕ → ℕ → (ℕ → Player) → Player → Type 0
IsGiven place rest n win q = (v : ℕ) → rest ≤ place v → place v < n → win v ≡ q

-- a move from v to w, where w stands behind mid, and q wins it
pub record FirmMove (b : Board) (place : ℕ → ℕ) (mid : ℕ) (q : Player) (win : ℕ → Player) (v w : ℕ) : Type 0 where
  pub move : b.Move v w
  pub behind : mid ≤ place w
  pub wins : win w ≡ q

-- the vertices of the part n behind mid are q's for good
pub record IsFirm (b : Board) (place : ℕ → ℕ) (n mid : ℕ) (q : Player) (win : ℕ → Player) (s : ℕ → ℕ) : Type 0 where
  pub own : (v : ℕ) → mid ≤ place v → place v < n → b.owner v ≡ q → FirmMove b place mid q win v (s v)
  pub other : (v w : ℕ) → mid ≤ place v → place v < n → b.owner v ≡ opponent q → b.Move v w → (mid ≤ place w) × (win w ≡ q)
  pub loops : (c : ℕ → ℕ) (m : ℕ) → Loop b (part place n) win s q c m → ((k : ℕ) → k < m → mid ≤ place (c k)) → GoodFor b q c m

-- behind mid stand the vertices of lowest priority, which is good for q, and the attractor is q's
pub record IsFirstHalf (b : Board) (place : ℕ → ℕ) (n mid rest : ℕ) (q : Player) (win : ℕ → Player) (s : ℕ → ℕ) : Type 0 where
  pub is_part : IsPart b place n win
  pub attracted : IsAttracted b place n mid rest q s
  pub given : IsGiven place rest n win q
  pub lowest : (t v : ℕ) → mid ≤ place t → place t < n → place v < n → b.priority t ≤ b.priority v
  pub good : (t : ℕ) → mid ≤ place t → place t < n → side (b.priority t) ≡ q
  pub chosen : (t : ℕ) → mid ≤ place t → place t < n → b.owner t ≡ q → b.Move t (s t) × (place (s t) < n)

-- behind mid stands what is firm for q, and the attractor is q's
pub record IsSecondHalf (b : Board) (place : ℕ → ℕ) (n mid rest : ℕ) (q : Player) (win : ℕ → Player) (s : ℕ → ℕ) : Type 0 where
  pub is_part : IsPart b place n win
  pub attracted : IsAttracted b place n mid rest q s
  pub given : IsGiven place rest n win q
  pub firm : IsFirm b place n mid q win s

-- places, winners and choices are the same behind the part n, which has the same vertices
pub record KeepsBehind (n : ℕ) (place : ℕ → ℕ) (win : ℕ → Player) (s : ℕ → ℕ) (place2 : ℕ → ℕ) (win2 : ℕ → Player) (s2 : ℕ → ℕ) : Type 0 where
  pub behind : (v : ℕ) → n ≤ place v → place2 v ≡ place v
  pub inside : (v : ℕ) → place v < n → place2 v < n
  pub winners : (v : ℕ) → n ≤ place v → win2 v ≡ win v
  pub choices : (v : ℕ) → n ≤ place v → s2 v ≡ s v

-- the vertices of the part n that have P are moved to its end, behind mid; behind the part nothing moves
pub record Gathers (place place2 : ℕ → ℕ) (n mid : ℕ) (P : ℕ → Type 0) : Type 0 where
  pub fits : mid ≤ n
  pub behind : (v : ℕ) → n ≤ place v → place2 v ≡ place v
  pub inside : (v : ℕ) → place v < n → place2 v < n
  pub passes : (v : ℕ) → mid ≤ place2 v → place2 v < n → P v
  pub fails : (v : ℕ) → place2 v < mid → P v → ⊥
