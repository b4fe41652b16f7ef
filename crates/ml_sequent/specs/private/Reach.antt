-- The search along local walks, with the lowest priority on the way. Only private contracts and proofs cite what stands
-- here.
--
-- A place of the search is a node with a rank, which stands for the lowest priority on the way there: the priorities of a
-- graph are ranked from the lowest one on. The search keeps what it found, each place once, and marks for it.
--
--   onto ranks r n        == the place at node n that is entered with rank r
--   onward g c ranks v    == the places to which the search goes on from v
--   above floor vs        == those of the places vs whose rank is not below the floor
--   behind g c ranks floor v == the places to which a search with a floor goes on
--   unranked n, ranked ranks n == the place at n where a search begins, with rank 0 and with its own
--   Leads next v w        == a way along `next` leads from v to w, at least nowhere
--   IsReached next C w    == such a way leads from a place of C to w
--   code width v          == the number of the mark of place v
--   HasCode width found m == m is the number of a place that was found
--   IsMarked width marks found == what was found is marked, and nothing else
--   marked_nodes width marks n == the nodes below n that are marked with rank 0, ascending
--   IsVisited ks found found2 == found2 is found with what of ks is new
--   IsSearch next C i found == the search from C is under way: the first i places that were found went on
--   HasReached next C found == found has exactly what is reached from C
--   IsRanked g levels     == levels has the priorities that occur in g, ascending, and the rank of each node
--   HasRoom g levels r    == a search has room for all places of g
use Rattle.std.specs.Prelude.{ℕ, zero, suc, ◌≡◌, ◌+◌, ◌*◌, ◌<◌, ◌≤◌, ◌↔◌, min, Bool, true, false, not, cond, List, [], ◌∷◌, ◌++◌, map, filter, length, get_or, nat_le}
use Rattle.ml_lists.specs.Ascending.{IsAscending}
use Rattle.ml_lists.specs.Counting.{count}
use Rattle.ml_lists.specs.Member.{IsMember}
use Rattle.ml_graph.specs.Graph.{Graph, size, priority_at}
use Rattle.ml_sequent.specs.declared.choice.Side.{Side}
use Rattle.ml_sequent.specs.declared.reach.Visit.{Visit}
use Rattle.ml_sequent.specs.LocalWalk.{children}

-- ---- places

-- the place at node n that is entered with rank r
abbrev pub onto : List ℕ → ℕ → ℕ → Visit
onto ranks r n = record { node = n; rank = min r (get_or ranks n 0) }

-- the places to which the search goes on
abbrev pub onward : Graph → List (ℕ × Side) → List ℕ → Visit → List Visit
onward g c ranks v = map (onto ranks v.rank) (children g c v.node)

-- the places of a list whose rank is not below the floor
abbrev pub above : ℕ → List Visit → List Visit
above floor vs = filter (λ v. nat_le floor v.rank) vs

-- the places to which a search with a floor goes on
abbrev pub behind : Graph → List (ℕ × Side) → List ℕ → ℕ → Visit → List Visit
behind g c ranks floor v = above floor (onward g c ranks v)

-- the first place at a node of a sequent, where ranks don't matter
abbrev pub unranked : ℕ → Visit
unranked n = record { node = n; rank = 0 }

-- the first place at a node of which the lowest priorities are asked
abbrev pub ranked : List ℕ → ℕ → Visit
ranked ranks n = record { node = n; rank = get_or ranks n 0 }

-- ---- ways

-- a way along `next`, at least nowhere
pub data Leads : (Visit → List Visit) → Visit → Visit → Type 0 where
  ends : {next : Visit → List Visit} (v : Visit) → Leads next v v
  moves : {next : Visit → List Visit} {w : Visit} (v u : Visit) → IsMember u (next v) → Leads next u w → Leads next v w

-- a way leads from a place of C to w
pub record IsReached (next : Visit → List Visit) (C : List Visit) (w : Visit) : Type 0 where
  pub from : Visit
  pub member : IsMember from C
  pub way : Leads next from w

-- ---- what a search holds

-- the number of the mark of a place
abbrev pub code : ℕ → Visit → ℕ
code width v = width * v.node + v.rank

-- is this number marked?
abbrev pub mark : List Bool → ℕ → Bool
mark marks m = get_or marks m false

-- how many of the first n numbers aren't marked
abbrev pub unmarked : ℕ → List Bool → ℕ
unmarked n marks = count (λ m. not (mark marks m)) n

-- the number is that of a place that was found
pub record HasCode (width : ℕ) (found : List Visit) (m : ℕ) : Type 0 where
  pub visit : Visit
  pub member : IsMember visit found
  pub holds : m ≡ code width visit

-- what was found is marked, and nothing else
pub record IsMarked (width : ℕ) (marks : List Bool) (found : List Visit) : Type 0 where
  pub marked : (v : Visit) → IsMember v found → mark marks (code width v) ≡ true
  pub only : (m : ℕ) → mark marks m ≡ true → HasCode width found m
  pub low : (v : Visit) → IsMember v found → (v.rank < width) × (code width v < length marks)
  pub counted : length found + unmarked (length marks) marks ≤ length marks

-- the nodes below n that are marked with rank 0, ascending
abbrev pub marked_nodes : ℕ → List Bool → ℕ → List ℕ
marked_nodes width marks zero = []
marked_nodes width marks (suc n) = marked_nodes width marks n ++ cond (mark marks (width * n)) (n ∷ []) []

-- the search as contracts see it
pub record ReachList : Type 0 where
  pub width : ℕ
  pub room : ℕ
  pub found : List Visit

-- found2 is found with what of ks is new
pub record IsVisited (ks found found2 : List Visit) : Type 0 where
  pub new : List Visit
  pub grown : found2 ≡ found ++ new
  pub all : (k : Visit) → IsMember k ks → IsMember k found2
  pub only : (k : Visit) → IsMember k new → IsMember k ks

-- the search from C is under way: the first i places that were found went on
pub record IsSearch (next : Visit → List Visit) (C : List Visit) (i : ℕ) (found : List Visit) : Type 0 where
  pub within : i ≤ length found
  pub sound : (w : Visit) → IsMember w found → IsReached next C w
  pub closed : (k : ℕ) (d : Visit) → k < i → (e : Visit) → IsMember e (next (get_or found k d)) → IsMember e found
  pub seeded : (w : Visit) → IsMember w C → IsMember w found

-- found has exactly what is reached from C
abbrev pub HasReached : (Visit → List Visit) → List Visit → List Visit → Type 0
HasReached next C found = (w : Visit) → IsMember w found ↔ IsReached next C w

-- ---- ranks

-- priorities, ascending, and the rank of each node
pub record LevelList : Type 0 where
  pub priorities : List ℕ
  pub ranks : List ℕ

pub record IsRanked (g : Graph) (levels : LevelList) : Type 0 where
  pub ascends : IsAscending levels.priorities
  pub occur : (p : ℕ) → IsMember p levels.priorities → IsMember p g.priorities
  pub sizes : length levels.ranks ≡ size g
  pub low : (n : ℕ) → n < size g → get_or levels.ranks n 0 < length levels.priorities
  pub right : (n : ℕ) → n < size g → get_or levels.priorities (get_or levels.ranks n 0) 0 ≡ priority_at g n

-- a search has room for all places of g
pub record HasRoom (g : Graph) (levels : LevelList) (reach : ReachList) : Type 0 where
  pub width : reach.width ≡ length levels.priorities
  pub room : reach.room ≡ length levels.priorities * size g
