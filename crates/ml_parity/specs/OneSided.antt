-- One-sided graphs, walks in them, and which numbers are heights.
--
-- A one-sided graph is a game in which one player makes all moves: a finite graph whose arcs have priorities. Several
-- arcs may join the same two vertices, and an arc may lead back to where it begins; a vertex may have no arc. The
-- greatest priority that may occur, the top, is even and is a part of the graph. A walk is a list of arcs; the walk
-- without an arc leads from a vertex to itself. A cycle is a walk that ends where it begins, and may meet a vertex more
-- than once. What is said of a height is said for each even priority up to the top, also where no arc has it.
--
--   OneSidedGraph        == how many vertices, the top, and the arcs
--   IsOneSided g         == the top is even, no priority is above it, and all ends are vertices
--   IsStep g p v a       == a is an arc of g from v, of priority at least p
--   IsWalk g p v xs w    == the arcs xs, each of g and of priority at least p, lead from v to w one after the other
--   count_at p xs        == how many of the arcs have the priority p
--   IsEvenCycle g xs     == the arcs lead round a cycle whose lowest priority is even
--   EvenCycleIn g        == an even cycle of g
--   HasShape g rows      == each vertex has one number for each even priority from 0 to the top
--   AreHeights g rows    == the numbers are heights of g
--   IsMost g p v n       == n is the largest number of arcs of priority p on a walk from v along arcs of at least p
--   AreLongest g rows    == each number is that largest number
--   AtMost n rows        == no height is above n
use Rattle.std.specs.Prelude.{ℕ, ◌≡◌, ◌+◌, ◌/◌, ◌%◌, ◌<◌, ◌≤◌, List, [], ◌∷◌, length, get_or, Contains, All, cond, eqb}
use Rattle.ml_parity.specs.declared.one_sided.graph.Arc.{Arc}
use Rattle.ml_parity.specs.Heights.{FallsAlong, height_of}

-- how many vertices, the greatest priority that may occur, and the arcs
pub record OneSidedGraph : Type 0 where
  pub size : ℕ
  pub top : ℕ
  pub arcs : List Arc

-- the top is even, no priority is above it, and all ends are vertices
pub record IsOneSided (g : OneSidedGraph) : Type 0 where
  pub even : g.top % 2 ≡ 0
  pub priorities : All (λ (a : Arc). a.priority ≤ g.top) g.arcs
  pub begins : All (λ (a : Arc). a.from < g.size) g.arcs
  pub ends : All (λ (a : Arc). a.to < g.size) g.arcs

-- a is an arc of g from v, of priority at least p
pub record IsStep (g : OneSidedGraph) (p v : ℕ) (a : Arc) : Type 0 where
  pub member : Contains g.arcs a
  pub leaves : a.from ≡ v
  pub high : p ≤ a.priority

-- the arcs, each of g and of priority at least p, lead from v to w one after the other
abbrev pub IsWalk : OneSidedGraph → ℕ → ℕ → List Arc → ℕ → Type 0
IsWalk g p v [] w = v ≡ w
IsWalk g p v (a ∷ rest) w = IsStep g p v a × IsWalk g p a.to rest w

-- how many of the arcs have the priority p
abbrev pub count_at : ℕ → List Arc → ℕ
count_at p [] = 0
count_at p (a ∷ rest) = cond (eqb a.priority p) 1 0 + count_at p rest

-- the arcs lead round a cycle whose lowest priority is even: none has a lower priority, and some has this one
pub record IsEvenCycle (g : OneSidedGraph) (xs : List Arc) : Type 0 where
  pub lowest : ℕ
  pub even : lowest % 2 ≡ 0
  pub begins : ℕ
  pub leads_back : IsWalk g lowest begins xs begins
  pub met : 0 < count_at lowest xs

-- an even cycle of g
pub record EvenCycleIn (g : OneSidedGraph) : Type 0 where
  pub arcs : List Arc
  pub is_even : IsEvenCycle g arcs

-- each vertex has one number for each even priority from 0 to the top
pub record HasShape (g : OneSidedGraph) (rows : List (List ℕ)) : Type 0 where
  pub vertices : length rows ≡ g.size
  pub numbers : (v : ℕ) → v < g.size → length (get_or rows v []) ≡ g.top / 2 + 1

-- the numbers are heights of g
pub record AreHeights (g : OneSidedGraph) (rows : List (List ℕ)) : Type 0 where
  pub shape : HasShape g rows
  pub along : All (FallsAlong rows) g.arcs

-- some walk from v along arcs of at least p has n arcs of priority p
pub record Attained (g : OneSidedGraph) (p v n : ℕ) : Type 0 where
  pub arcs : List Arc
  pub end : ℕ
  pub walk : IsWalk g p v arcs end
  pub counts : count_at p arcs ≡ n

-- n is the largest number of arcs of priority p on a walk from v along arcs of at least p
pub record IsMost (g : OneSidedGraph) (p v n : ℕ) : Type 0 where
  pub attained : Attained g p v n
  pub largest : (xs : List Arc) (w : ℕ) → IsWalk g p v xs w → count_at p xs ≤ n

-- each number is the largest number of arcs of its priority on a walk from its vertex
pub record AreLongest (g : OneSidedGraph) (rows : List (List ℕ)) : Type 0 where
  pub shape : HasShape g rows
  pub most : (p v : ℕ) → p % 2 ≡ 0 → p ≤ g.top → v < g.size → IsMost g p v (height_of rows p v)

-- no height is above n
abbrev pub AtMost : ℕ → List (List ℕ) → Type 0
AtMost n rows = (p v : ℕ) → height_of rows p v ≤ n
