-- Pairs of a state of a system and one of an automaton that are reached together, and the graph of their joint moves.
--
-- The pairs are numbered as they are met, the start first. Of each other one it is known from which pair, with a smaller
-- number, it was met first, and by which letter. An arc is accepting if it has the priority 0, and else it has 1.
--
--   Joins row s x l y acc     == by the letter l the system goes from the pair x to y, and the automaton reads it, accepting or
--                                not
--   weight acc                == the priority of an arc
--   IsJoint row s ps a        == the arc a joins two of the pairs ps
--   IsLeft row s ps as j      == all joint moves from the pair number j are arcs
--   AreJoint row s x m ts     == m is a move from x, and ts are the transitions along it
--   IsLeftBy, IsLeftAlong     == those by some moves; those by a move with some transitions
--   AreKept ps as ps' as'     == pairs keep their numbers, and arcs are kept
--   IsMet row s ps o i        == the pair number i is met as its origin o says
--   AreMet row s ps os        == the start is pair 0, and each other one is met from an earlier one
--   IsPartly row s ps as os k == the pairs are met, none twice, and those before number k are left
--   Way row s x ns ls y       == from x over these states, by these letters, to y
--   IsWayBetween              == the same between the pairs with two numbers
--   AcceptingWay              == the same with an accepting step
--   IsStepped row s ps a n l  == along the arc a the system goes from the state n by the letter l
--   AreStepped                == so it does along each arc of a list
use Rattle.std.specs.Prelude.{ℕ, ◌≡◌, ◌↔◌, ◌<◌, ◌⊎◌, Bool, true, List, [], ◌∷◌, length, get_or, Some, if◌then◌else◌}
use Rattle.std.specs.List.{slice_get}
use Rattle.ml_lists.specs.Added.{HasOnePlace}
use Rattle.ml_lists.specs.Member.{IsMember}
use Rattle.ml_parity.specs.declared.one_sided.graph.Arc.{Arc}
use Rattle.ml_trace.specs.declared.letters.Transition.{Transition}
use Rattle.ml_emptiness.specs.Emptiness.{reads}
use Rattle.ml_emptiness.specs.Systems.{Goes, SystemTable, moves_of}
use Rattle.ml_emptiness.specs.declared.pairs.Pair.{Pair}
use Rattle.ml_emptiness.specs.declared.systems.Move.{Move}
use Rattle.ml_emptiness.specs.declared.pairs.Origin.{Origin}

abbrev pub pair : ℕ → ℕ → Pair
pair a q = record { state = a; at = q }

pub record Joins (row : List (List Transition)) (s : SystemTable) (x : Pair) (l : ℕ) (y : Pair) (accepting : Bool) : Type 0 where
  pub goes : Goes s x.state l y.state
  pub is_read : reads row l x.at y.at accepting

abbrev pub weight : Bool → ℕ
weight accepting = if accepting then 0 else 1

abbrev pub arc : ℕ → Bool → ℕ → Arc
arc i accepting j = record { from = i; priority = weight accepting; to = j }

-- the arc joins two of the pairs
pub record IsJoint (row : List (List Transition)) (s : SystemTable) (pairs : List Pair) (a : Arc) : Type 0 where
  pub source : Pair
  pub target : Pair
  pub is_source : slice_get pairs a.from ≡ Some source
  pub is_target : slice_get pairs a.to ≡ Some target
  pub letter : ℕ
  pub accepting : Bool
  pub has_weight : a.priority ≡ weight accepting
  pub joins : Joins row s source letter target accepting

-- all joint moves from the pair number j are arcs
abbrev pub IsLeft : List (List Transition) → SystemTable → List Pair → List Arc → ℕ → Type 0
IsLeft row s pairs arcs j =
    (x : Pair) (l : ℕ) (y : Pair) (accepting : Bool)
    → slice_get pairs j ≡ Some x
    → Joins row s x l y accepting
    → (i : ℕ) × (slice_get pairs i ≡ Some y) × IsMember (arc j accepting i) arcs

-- the transitions are read along the move from x
abbrev pub AreJoint : List (List Transition) → SystemTable → Pair → Move → List Transition → Type 0
AreJoint row s x m ts =
    IsMember m (moves_of s x.state)
    × ((t : Transition) → IsMember t ts ↔ (IsMember t (get_or row m.letter []) × (t.from ≡ x.at)))

-- so are those from x, which is the pair number j, by these moves
abbrev pub IsLeftBy : List (List Transition) → List Pair → List Arc → ℕ → Pair → List Move → Type 0
IsLeftBy row pairs arcs j x moves =
    (m : Move) (y : Pair) (accepting : Bool)
    → IsMember m moves
    → m.to ≡ y.state
    → reads row m.letter x.at y.at accepting
    → (i : ℕ) × (slice_get pairs i ≡ Some y) × IsMember (arc j accepting i) arcs

-- and by a move with these transitions
abbrev pub IsLeftAlong : List Pair → List Arc → ℕ → Move → List Transition → Type 0
IsLeftAlong pairs arcs j m ts =
    (t : Transition)
    → IsMember t ts
    → (i : ℕ) × (slice_get pairs i ≡ Some (pair m.to t.to)) × IsMember (arc j t.accepting i) arcs

-- what stood there stands there still
pub record AreKept (pairs : List Pair) (arcs : List Arc) (pairs' : List Pair) (arcs' : List Arc) : Type 0 where
  pub keeps_pairs : (i : ℕ) (x : Pair) → slice_get pairs i ≡ Some x → slice_get pairs' i ≡ Some x
  pub keeps_arcs : (a : Arc) → IsMember a arcs → IsMember a arcs'

-- the pair number i was met first from the pair that its origin names
pub record IsMet (row : List (List Transition)) (s : SystemTable) (pairs : List Pair) (o : Origin) (i : ℕ) : Type 0 where
  pub earlier : o.from < i
  pub source : Pair
  pub target : Pair
  pub is_source : slice_get pairs o.from ≡ Some source
  pub is_target : slice_get pairs i ≡ Some target
  pub accepting : Bool
  pub joins : Joins row s source o.letter target accepting

-- that of the start says nothing
abbrev pub origin_at : List Origin → ℕ → Origin
origin_at origins i = get_or origins i (record { from = 0; letter = 0 })

-- the start is pair 0, and each other one is met from an earlier one
pub record AreMet (row : List (List Transition)) (s : SystemTable) (pairs : List Pair) (origins : List Origin) : Type 0 where
  pub begins : slice_get pairs 0 ≡ Some (pair 0 0)
  pub an_origin_each : length origins ≡ length pairs
  pub are_met : (i : ℕ) → 0 < i → i < length pairs → IsMet row s pairs (origin_at origins i) i

-- the pairs are met, none twice, and those before number k are left
pub record IsPartly (row : List (List Transition)) (s : SystemTable) (pairs : List Pair) (arcs : List Arc) (origins : List Origin) (k : ℕ) : Type 0 where
  pub met : AreMet row s pairs origins
  pub once : HasOnePlace pairs
  pub are_joint : (a : Arc) → IsMember a arcs → IsJoint row s pairs a
  pub are_left : (j : ℕ) → j < k → IsLeft row s pairs arcs j

abbrev pub Way : List (List Transition) → SystemTable → Pair → List ℕ → List ℕ → Pair → Type 0
Way row s x [] [] y = x ≡ y
Way row s x (a ∷ ns) (l ∷ ls) y =
    (x.state ≡ a) × ((z : Pair) × (accepting : Bool) × Joins row s x l z accepting × Way row s z ns ls y)
Way row s x _ _ y = ⊥

-- from each pair of the one number to each of the other, of which there is one
abbrev pub IsWayBetween : List (List Transition) → SystemTable → List Pair → ℕ → List ℕ → List ℕ → ℕ → Type 0
IsWayBetween row s pairs i ns ls j =
    (x y : Pair) → slice_get pairs i ≡ Some x → slice_get pairs j ≡ Some y → Way row s x ns ls y

abbrev pub AcceptingWay : List (List Transition) → SystemTable → Pair → List ℕ → List ℕ → Pair → Type 0
AcceptingWay row s x (a ∷ ns) (l ∷ ls) y = (x.state ≡ a) × (
    ((z : Pair) × Joins row s x l z true × Way row s z ns ls y)
    ⊎ ((z : Pair) × (accepting : Bool) × Joins row s x l z accepting × AcceptingWay row s z ns ls y))
AcceptingWay row s x _ _ y = ⊥

-- along the arc the system goes from the state n by the letter l
pub record IsStepped (row : List (List Transition)) (s : SystemTable) (pairs : List Pair) (a : Arc) (n l : ℕ) : Type 0 where
  pub source : Pair
  pub target : Pair
  pub is_source : slice_get pairs a.from ≡ Some source
  pub is_target : slice_get pairs a.to ≡ Some target
  pub from_state : source.state ≡ n
  pub accepting : Bool
  pub has_weight : a.priority ≡ weight accepting
  pub joins : Joins row s source l target accepting

abbrev pub AreStepped : List (List Transition) → SystemTable → List Pair → List Arc → List ℕ → List ℕ → Type 0
AreStepped row s pairs [] [] [] = Unit {0}
AreStepped row s pairs (a ∷ arcs) (n ∷ ns) (l ∷ ls) = IsStepped row s pairs a n l × AreStepped row s pairs arcs ns ls
AreStepped row s pairs _ _ _ = ⊥
