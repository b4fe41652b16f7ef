-- The steps of the fast solver, on the lists that it holds. Only private contracts and proofs cite what stands here.
--
-- The row is two lists, each the inverse of the other: the vertices in their order, and the place of each vertex. Behind
-- the last vertex stands whatever is none. For each vertex the solver keeps how many of its moves lead in front of some
-- place, and to keep it uses the lists of predecessors, in which a vertex stands once for each of its moves.
--
--   place_of place v       == the place of vertex v
--   IsRow order place      == the two lists of a row
--   times v xs             == how often v stands in xs
--   ArePredecessors g preds == u stands in the list of v as often as v stands among the moves of u
--   moves_before g place n v == how many moves of v lead in front of place n
--   IsLeft g place n left  == left tells for each vertex how many of its moves lead in front of place n
--   IsRemoved place place2 n u == u went to the last place of the part n, and what stood there to the place of u
--   number_at xs v         == the number that stands in a list at v
--   places w, choices w, lefts w == the place, the choice and the count of each vertex, where the solver's work stands
--   IsWork g w             == the work is a row, and has a count and a choice for each vertex
--   Keeps n w w2           == places and choices are the same behind the part n, which has the same vertices
--   IsGathering            == so far, the vertices of the part n with P are behind rest, and no other from `at` on has P
--   IsAttracting           == an attractor that is being made: all that stands from place a on was followed backwards, but
--                             for the predecessors that are still to be seen
--   Attracts               == the same, where the solver's work stands
--   IsLowest g place n p   == p is the lowest priority in the part n
--   ChoosesInside          == the choices of q's vertices from mid up to a are moves into the part n, and the others are kept
--   IsAdded                == a vertex is added to the lists of those to which its moves lead, once for each move
--   Gives                  == the vertices of the part n behind rest belong to q now, and no other vertex changes hands
use Rattle.std.specs.Prelude.{ℕ, ◌≡◌, ◌+◌, ◌<◌, ◌≤◌, ◌⊎◌, List, [], length, get_or, nat_eq}
use Rattle.std.specs.List.{count_by}
use Rattle.ml_parity.specs.declared.players.Player.{Player}
use Rattle.ml_parity.specs.declared.zielonka.attractor.Work.{Work}
use Rattle.ml_parity.specs.Player.{opponent}
use Rattle.ml_parity.specs.Game.{ParityGame, HasMove, size, owner_of, priority_of, moves_of}
use Rattle.ml_parity.specs.Solution.{choice_at}
use Rattle.ml_parity.specs.private.SinkGame.{board_of}
use Rattle.ml_parity.specs.private.Parts.{part, KeepsBehind, LeadsBack}

-- the place of vertex v; what is no vertex stands behind them all
abbrev pub place_of : List ℕ → ℕ → ℕ
place_of place v = get_or place v (length place)

-- the two lists of a row: each is the inverse of the other
pub record IsRow (order place : List ℕ) : Type 0 where
  pub size : length order ≡ length place
  pub vertices : (k : ℕ) → k < length place → get_or order k 0 < length place
  pub back : (k : ℕ) → k < length place → place_of place (get_or order k 0) ≡ k
  pub placed : (v : ℕ) → v < length place → place_of place v < length place
  pub there : (v : ℕ) → v < length place → get_or order (place_of place v) 0 ≡ v

-- how often v stands in xs
abbrev pub times : ℕ → List ℕ → ℕ
times v xs = count_by (λ x. nat_eq x v) xs

-- u stands in the list of v as often as v stands among the moves of u
pub record ArePredecessors (g : ParityGame) (preds : List (List ℕ)) : Type 0 where
  pub lists : length preds ≡ size g
  pub each : (v u : ℕ) → v < size g → times u (get_or preds v []) ≡ times v (moves_of g u)

-- how many moves of v lead in front of place n
abbrev pub moves_before : ParityGame → (ℕ → ℕ) → ℕ → ℕ → ℕ
moves_before g place n v = count_by (part place n) (moves_of g v)

-- left tells for each vertex how many of its moves lead in front of place n
abbrev pub IsLeft : ParityGame → (ℕ → ℕ) → ℕ → (ℕ → ℕ) → Type 0
IsLeft g place n left = (v : ℕ) → v < size g → left v ≡ moves_before g place n v

-- the vertex u went to the last place of the part n, and what stood there to the place of u
pub record IsRemoved (place place2 : ℕ → ℕ) (n u : ℕ) : Type 0 where
  pub low : place u < n
  pub here : place2 u + 1 ≡ n
  pub behind : (v : ℕ) → n ≤ place v → place2 v ≡ place v
  pub kept : (v : ℕ) → (v ≡ u → ⊥) → place v < n → place2 v + 1 < n
  pub early : (v : ℕ) → place v < place u → place2 v ≡ place v
  pub late : (v : ℕ) → place u ≤ place v → place u ≤ place2 v

-- the number that stands in a list at v
abbrev pub number_at : List ℕ → ℕ → ℕ
number_at xs v = get_or xs v 0

-- the place of each vertex, its choice and its count, where the solver's work stands
abbrev pub places : Work → ℕ → ℕ
places w = place_of w.row.place.items

abbrev pub choices : Work → ℕ → ℕ
choices w = choice_at w.choice.items

abbrev pub lefts : Work → ℕ → ℕ
lefts w = number_at w.left.items

-- the work is a row, and has a count and a choice for each vertex
pub record IsWork (g : ParityGame) (w : Work) : Type 0 where
  pub row : IsRow w.row.order.items w.row.place.items
  pub vertices : length w.row.place.items ≡ size g
  pub counts : length w.left.items ≡ size g
  pub chosen : length w.choice.items ≡ size g

-- places and choices are the same behind the part n, which has the same vertices
abbrev pub Keeps : ℕ → Work → Work → Type 0
Keeps n w w2 = (win : ℕ → Player) → KeepsBehind n (places w) win (choices w) (places w2) win (choices w2)

-- so far, the vertices of the part n that have P are behind rest, and no other from `at` on has P
pub record IsGathering (place place2 : ℕ → ℕ) (n rest at : ℕ) (P : ℕ → Type 0) : Type 0 where
  pub fits : rest ≤ n
  pub reached : at ≤ rest
  pub behind : (v : ℕ) → n ≤ place v → place2 v ≡ place v
  pub inside : (v : ℕ) → place v < n → place2 v < n
  pub passes : (v : ℕ) → rest ≤ place2 v → place2 v < n → P v
  pub fails : (v : ℕ) → at ≤ place2 v → place2 v < rest → P v → ⊥

-- an attractor of q that is being made in the part n, to the vertices behind mid: what is behind rest is attracted, all
-- that stands from place a on was followed backwards, but for the predecessors that are still to be seen
pub record IsAttracting (g : ParityGame) (place : ℕ → ℕ) (n mid rest a : ℕ) (q : Player) (s left : ℕ → ℕ) (todo : List ℕ) : Type 0 where
  pub low : rest ≤ mid
  pub high : mid ≤ n
  pub reached : rest ≤ a
  pub within : a ≤ n
  pub lefts : (v : ℕ) → v < size g → left v ≡ moves_before g place a v + times v todo
  pub own : (v : ℕ) → rest ≤ place v → place v < mid → owner_of g v ≡ q → LeadsBack (board_of g) place n v (s v)
  pub other : (v w : ℕ) → rest ≤ place v → place v < mid → owner_of g v ≡ opponent q → HasMove g v w → place w < n → place v < place w
  pub seen_own : (v w : ℕ) → place v < rest → owner_of g v ≡ q → HasMove g v w → place w < n → (place w < a) ⊎ (0 < times v todo)
  pub seen_other : (v : ℕ) → place v < rest → owner_of g v ≡ opponent q → 0 < left v

-- the same, where the solver's work stands
abbrev pub Attracts : ParityGame → Work → ℕ → ℕ → ℕ → ℕ → Player → List ℕ → Type 0
Attracts g w n mid rest a q todo = IsAttracting g (places w) n mid rest a q (choices w) (lefts w) todo

-- p is the lowest priority in the part n
pub record IsLowest (g : ParityGame) (place : ℕ → ℕ) (n p : ℕ) : Type 0 where
  pub vertex : ℕ
  pub inside : place vertex < n
  pub is : priority_of g vertex ≡ p
  pub least : (v : ℕ) → place v < n → p ≤ priority_of g v

-- the choices of q's vertices from mid up to a are moves into the part n, and the others are kept
pub record ChoosesInside (g : ParityGame) (place : ℕ → ℕ) (n mid a : ℕ) (q : Player) (s s2 : ℕ → ℕ) : Type 0 where
  pub chosen : (v : ℕ) → mid ≤ place v → place v < a → owner_of g v ≡ q → HasMove g v (s2 v) × (place (s2 v) < n)
  pub behind : (v : ℕ) → a ≤ place v → s2 v ≡ s v
  pub early : (v : ℕ) → place v < mid → s2 v ≡ s v

-- the vertices of the part n behind rest belong to q now, and no other vertex changes hands
pub record Gives (place : ℕ → ℕ) (n rest : ℕ) (q : Player) (win win2 : ℕ → Player) : Type 0 where
  pub given : (v : ℕ) → rest ≤ place v → place v < n → win2 v ≡ q
  pub behind : (v : ℕ) → n ≤ place v → win2 v ≡ win v
  pub early : (v : ℕ) → place v < rest → win2 v ≡ win v

-- u is added to the lists of those to which the moves lead, once for each move
pub record IsAdded (preds preds2 : List (List ℕ)) (u : ℕ) (moves : List ℕ) : Type 0 where
  pub lists : length preds2 ≡ length preds
  pub here : (v : ℕ) → v < length preds → times u (get_or preds2 v []) ≡ times u (get_or preds v []) + times v moves
  pub elsewhere : (v x : ℕ) → v < length preds → (x ≡ u → ⊥) → times x (get_or preds2 v []) ≡ times x (get_or preds v [])
