-- The nodes that a branch reached, and how it is taken back. Only private contracts and proofs cite what stands here.
--
--   TrailList             == nodes in the order in which they were reached, of `room` nodes
--   HasPlaces g trail     == the trail has a place for each node of g
--   ArePlaced places nodes == of each node on the list its place is known, so that none stands there twice
--   IsJoined ks nodes nodes2 == nodes2 is nodes with what of ks is new
--   IsUnderway g c C i nodes == the search from C is under way: the first i nodes have their children on the list
--   HasSpread g c C nodes == the list has exactly the nodes of the spread of C
--   without i c           == the list c without its entry at place i
--   spread_at nodes c     == the nodes as a spread under the choice c
--   earlier nodes c taken == the spreads before each choice that was made, the last one first
--   IsGrown nodes nodes2  == the list stands at the front of the longer one
use Rattle.std.specs.Prelude.{ℕ, zero, suc, ◌≡◌, ◌<◌, ◌≤◌, ◌↔◌, List, [], ◌∷◌, ◌++◌, length, get_or, take}
use Rattle.ml_lists.specs.Ascending.{ascending}
use Rattle.ml_lists.specs.Member.{IsMember}
use Rattle.ml_graph.specs.Graph.{Graph, size}
use Rattle.ml_sequent.specs.declared.choice.Side.{Side}
use Rattle.ml_sequent.specs.declared.taken.Taken.{Taken}
use Rattle.ml_sequent.specs.LocalWalk.{InSpread, children}
use Rattle.ml_sequent.specs.Spread.{SpreadList}

-- nodes in the order in which they were reached
pub record TrailList : Type 0 where
  pub room : ℕ
  pub nodes : List ℕ

-- the trail has a place for each node of g
abbrev pub HasPlaces : Graph → TrailList → Type 0
HasPlaces g trail = trail.room ≡ size g

-- of each node on the list its place is known
pub record ArePlaced (places nodes : List ℕ) : Type 0 where
  pub low : (i : ℕ) → i < length nodes → get_or nodes i 0 < length places
  pub placed : (i : ℕ) → i < length nodes → get_or places (get_or nodes i 0) 0 ≡ i

-- nodes2 is nodes with what of ks is new
pub record IsJoined (ks nodes nodes2 : List ℕ) : Type 0 where
  pub new : List ℕ
  pub grown : nodes2 ≡ nodes ++ new
  pub all : (k : ℕ) → IsMember k ks → IsMember k nodes2
  pub only : (k : ℕ) → IsMember k new → IsMember k ks

-- the first i nodes have their children on the list
pub record IsUnderway (g : Graph) (c : List (ℕ × Side)) (C : List ℕ) (i : ℕ) (nodes : List ℕ) : Type 0 where
  pub sound : (m : ℕ) → IsMember m nodes → InSpread g c C m
  pub closed : (k m : ℕ) → k < i → IsMember m (children g c (get_or nodes k 0)) → IsMember m nodes
  pub seeded : (m : ℕ) → IsMember m C → IsMember m nodes
  pub within : i ≤ length nodes

-- the list has exactly the nodes of the spread of C
abbrev pub HasSpread : Graph → List (ℕ × Side) → List ℕ → List ℕ → Type 0
HasSpread g c C nodes = (m : ℕ) → IsMember m nodes ↔ InSpread g c C m

-- the nodes as a spread
abbrev pub spread_at : List ℕ → List (ℕ × Side) → SpreadList
spread_at nodes c = record { nodes = ascending nodes; choice = c }

-- the list stands at the front of the longer one
abbrev pub IsGrown : List ℕ → List ℕ → Type 0
IsGrown nodes nodes2 = take (length nodes) nodes2 ≡ nodes

-- the list without its entry at a place
abbrev pub without : {X : Type 0} → ℕ → List X → List X
without i [] = []
without zero (x ∷ xs) = xs
without (suc i) (x ∷ xs) = x ∷ without i xs

-- the spreads before each choice
abbrev pub earlier : List ℕ → List (ℕ × Side) → List Taken → List SpreadList
earlier nodes c [] = []
earlier nodes c (t ∷ ts) = spread_at (take t.first nodes) (without t.place c) ∷ earlier (take t.first nodes) (without t.place c) ts
