-- How places are found, one after the other, and edges are made of them.
--
--   props_of c                == the propositions of the literals of c
--   IsSplit c p at            == the first `at` literals of c have propositions below p, and the others none
--   inserted c at l           == the literal l behind the first `at` of c
--   AreNumbers g props ns     == ns has of each proposition of g its number in props, if it is one of them
--   Follows g props s t       == from the place s a walk goes on to t
--   IsBehindLiteral, IsPast   == t stands behind s with one literal more; past a state node
--   places_in b               == the places that b holds
--   place_at xs k             == the place with the number k
--   IsFull limit xs s         == the place s would be one too many
--   IsGrown ts xs ys          == the places ts were added to the list xs, which became ys
--   Overflows limit ts xs     == some of xs and ts, each once, are more than the limit
--   IsFollowed, IsPassed      == the places behind one of xs were added; with them there are too many
--   IsBegun a props n limit xs == xs has where walks from the first n states begin
--   IsFound a props done limit xs == of the places xs the first `done` were followed
--   ArePlaces a props xs      == xs are all places, each once
--   AreStateNumbers a ns      == ns has the number of each state's node
--   MakesAt, Makes g ns s e   == the place s ends with the edge e
--   IsEdgePut, IsPut          == an edge was put to those of the place's state
--   AllFit n m xs             == the places xs have nodes below n and states below m
--   HaveEdges, HaveNumberedEdges == the rows have the edges of the places xs
--   IsMadeOf a props limit b  == b has the states of a, with the edges of its places
use Rattle.std.specs.Prelude.{ℕ, ◌≡◌, ◌≢◌, ◌⊎◌, ◌<◌, ◌≤◌, ◌↔◌, ◌==◌, Bool, true, List, [], ◌∷◌, ◌++◌, length, map, take, drop, get_or, Option, Some, None, slice_get, MatchOption}
use Rattle.ml_graph.specs.Graph.{Graph, node_at, priority_at, prop_at}
use Rattle.ml_graph.specs.declared.node.Node.{Node}
use Rattle.ml_graph.specs.declared.node.Node.TheVariants as node
use Rattle.ml_lists.specs.Added.{HasOnePlace}
use Rattle.ml_lists.specs.Member.{IsMember}
use Rattle.ml_labelled.specs.declared.labelled.Literal.{Literal}
use Rattle.ml_labelled.specs.Labelled as labelled
use Rattle.ml_labelled.specs.Labelled.{Edge}
use Rattle.ml_word_automaton.specs.Letters.{Automaton, node_of}
use Rattle.ml_translate.specs.Places.{GoesOn, IsJoined, IsPlace, Passes, begin}
use Rattle.ml_translate.specs.declared.place.Place.{Place}
use Rattle.ml_translate.specs.declared.following.Behind.{Behind}
use Rattle.ml_translate.specs.declared.following.Behind.TheVariants as behind

-- ---- cubes

abbrev pub props_of : List Literal → List ℕ
props_of c = map (λ (l : Literal). l.prop) c

pub record IsSplit (c : List Literal) (prop at : ℕ) : Type 0 where
  pub within : at ≤ length c
  pub below : (k : ℕ) (d : Literal) → k < at → (get_or c k d).prop < prop
  pub behind : (d : Literal) → at < length c → prop ≤ (get_or c at d).prop

abbrev pub inserted : List Literal → ℕ → Literal → List Literal
inserted c at l = take at c ++ l ∷ drop at c

-- ---- numbers of propositions

abbrev pub number_at : List (Option ℕ) → ℕ → Option ℕ
number_at numbers k = get_or numbers k None

pub record AreNumbers (g : Graph) (props : List (List ℕ)) (numbers : List (Option ℕ)) : Type 0 where
  pub once : HasOnePlace props
  pub as_long : length numbers ≡ length g.props
  pub are : (k : ℕ) → k < length g.props
      → MatchOption (number_at numbers k) ((n : ℕ) → slice_get props n ≢ Some (prop_at g k))
      (λ n. slice_get props n ≡ Some (prop_at g k))

-- ---- walks

pub record Follows (g : Graph) (props : List (List ℕ)) (s t : Place) : Type 0 where
  pub same_state : t.state ≡ s.state
  pub goes_on : GoesOn g props s.node s.cube t.node t.cube

abbrev pub places_in : Behind → List Place
places_in behind.Nothing = []
places_in (behind.One s) = s ∷ []
places_in (behind.Two s t) = s ∷ t ∷ []

-- the place t stands behind s at the node n, with one literal more
pub record IsBehindLiteral (s : Place) (n : ℕ) (l : Literal) (t : Place) : Type 0 where
  pub same_state : t.state ≡ s.state
  pub at_node : t.node ≡ n
  pub is_joined : IsJoined s.cube l t.cube

-- the place t stands behind s at the node n, past the state node m
pub record IsPast (g : Graph) (props : List (List ℕ)) (s : Place) (m n : ℕ) (t : Place) : Type 0 where
  pub same_state : t.state ≡ s.state
  pub at_node : t.node ≡ n
  pub passes : Passes g props m s.cube t.cube

abbrev pub no_place : Place
no_place = record { state = 0; node = 0; cube = [] }

abbrev pub place_at : List Place → ℕ → Place
place_at xs k = get_or xs k no_place

pub record IsFull (limit : ℕ) (xs : List Place) (s : Place) : Type 0 where
  pub full : length xs ≡ limit
  pub is_new : ¬ (IsMember s xs)

pub record IsGrown (ts xs ys : List Place) : Type 0 where
  pub kept : (k : ℕ) (s : Place) → slice_get xs k ≡ Some s → slice_get ys k ≡ Some s
  pub once : HasOnePlace xs → HasOnePlace ys
  pub from : (s : Place) → IsMember s ys → IsMember s xs ⊎ IsMember s ts
  pub there : (s : Place) → IsMember s ts → IsMember s ys
  pub longer : length xs ≤ length ys

pub record Overflows (limit : ℕ) (ts xs : List Place) : Type 0 where
  pub more : List Place
  pub once : HasOnePlace xs → HasOnePlace more
  pub from : (s : Place) → IsMember s more → IsMember s xs ⊎ IsMember s ts
  pub is_longer : limit < length more

-- the places behind that with the number `at` were added to xs, which became ys
pub record IsFollowed (g : Graph) (props : List (List ℕ)) (xs : List Place) (at : ℕ) (ys : List Place) : Type 0 where
  pub kept : (k : ℕ) (s : Place) → slice_get xs k ≡ Some s → slice_get ys k ≡ Some s
  pub once : HasOnePlace xs → HasOnePlace ys
  pub from : (t : Place) → IsMember t ys → IsMember t xs ⊎ Follows g props (place_at xs at) t
  pub there : (t : Place) → Follows g props (place_at xs at) t → IsMember t ys
  pub longer : length xs ≤ length ys

-- with them there are more than the limit
pub record IsPassed (g : Graph) (props : List (List ℕ)) (xs : List Place) (at limit : ℕ) : Type 0 where
  pub more : List Place
  pub once : HasOnePlace xs → HasOnePlace more
  pub from : (t : Place) → IsMember t more → IsMember t xs ⊎ Follows g props (place_at xs at) t
  pub is_longer : limit < length more

pub record IsBegun (a : Automaton) (props : List (List ℕ)) (n limit : ℕ) (xs : List Place) : Type 0 where
  pub once : HasOnePlace xs
  pub are_places : (s : Place) → IsMember s xs → IsPlace a props s
  pub begun : (p : ℕ) → p < n → IsMember (begin a p) xs
  pub few : length xs ≤ limit

pub record IsFound (a : Automaton) (props : List (List ℕ)) (done limit : ℕ) (xs : List Place) : Type 0 where
  pub begun : IsBegun a props (length a.states) limit xs
  pub closed : (k : ℕ) (s t : Place) → k < done → slice_get xs k ≡ Some s → Follows a.graph props s t → IsMember t xs
  pub short : done ≤ length xs

pub record ArePlaces (a : Automaton) (props : List (List ℕ)) (xs : List Place) : Type 0 where
  pub once : HasOnePlace xs
  pub are : (s : Place) → IsMember s xs ↔ IsPlace a props s

-- ---- edges

pub record AreStateNumbers (a : Automaton) (numbers : List ℕ) : Type 0 where
  pub as_long : length numbers ≡ length a.graph.nodes
  pub are : (p : ℕ) → p < length a.states → get_or numbers (node_of a p) 0 ≡ p

abbrev pub MakesAt : Graph → List ℕ → Node → Place → Edge → Type 0
MakesAt g numbers (node.Diamond action q) s e =
    e ≡ record { cube = s.cube; to = get_or numbers q 0; accepting = priority_at g s.node == 0 }
MakesAt g numbers node.True s e = e ≡ record { cube = s.cube; to = get_or numbers s.node 0; accepting = true }
MakesAt g numbers v s e = ⊥

abbrev pub Makes : Graph → List ℕ → Place → Edge → Type 0
Makes g numbers s e = MakesAt g numbers (node_at g s.node) s e

abbrev pub row_at : List (List Edge) → ℕ → List Edge
row_at rows p = get_or rows p []

pub record IsPut (g : Graph) (numbers : List ℕ) (s : Place) (rows more : List (List Edge)) : Type 0 where
  pub as_long : length more ≡ length rows
  pub edges : (p : ℕ) (e : Edge)
      → IsMember e (row_at more p) ↔ (IsMember e (row_at rows p) ⊎ ((p ≡ s.state) × Makes g numbers s e))

-- an edge to this state was put behind those of the place's state
pub record IsEdgePut (s : Place) (to : ℕ) (accepting : Bool) (rows more : List (List Edge)) : Type 0 where
  pub as_long : length more ≡ length rows
  pub edges : (p : ℕ) (e : Edge)
      → IsMember e (row_at more p)
      ↔ (IsMember e (row_at rows p)
      ⊎ ((p ≡ s.state) × (e ≡ record { cube = s.cube; to = to; accepting = accepting })))

-- the places have nodes and states below these numbers
abbrev pub AllFit : (nodes states : ℕ) → List Place → Type 0
AllFit nodes states xs = (s : Place) → IsMember s xs → (s.node < nodes) × (s.state < states)

abbrev pub HaveEdges : Graph → List ℕ → List Place → List (List Edge) → Type 0
HaveEdges g numbers xs rows =
    (p : ℕ) (e : Edge) → IsMember e (row_at rows p) ↔ ((s : Place) × IsMember s xs × (p ≡ s.state) × Makes g numbers s e)

-- by some numbers of the states
pub record HaveNumberedEdges (a : Automaton) (xs : List Place) (rows : List (List Edge)) : Type 0 where
  pub numbers : List ℕ
  pub are_numbers : AreStateNumbers a numbers
  pub have_edges : HaveEdges a.graph numbers xs rows

-- b has of each state of a the edges of its places, which are at most `limit`
pub record IsMadeOf (a : Automaton) (props : List (List ℕ)) (limit : ℕ) (b : labelled.Automaton) : Type 0 where
  pub places : List Place
  pub are_places : ArePlaces a props places
  pub few : length places ≤ limit
  pub same_props : b.props ≡ props
  pub as_many : length b.edges ≡ length a.states
  pub have_edges : HaveNumberedEdges a places b.edges
