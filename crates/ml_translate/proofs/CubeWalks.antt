-- Walks with cubes are walks under the letters that the cubes fit.
--
--   ascends_place  == the cube of a place ascends
--   walk_of        == a place whose cube fits a letter is come to under the letter
--   place_at_walk  == what is come to under a letter is a place whose cube fits it
--   KnowsLiterals  == the literals of the graph name propositions that are listed
use Rattle.std.proofs.Common.{ℕ, ◌≡◌, ◌<◌, ◌⊎◌, inl, inr, Bool, List, [], length, Some, slice_get, refl, sym, ap, ◌∙◌, subst}
use Rattle.std.proofs.lemmas.Bool.{cases_eq}
use Rattle.std.proofs.lemmas.Option.{get_or_from_slice_get}
use Rattle.ml_lists.specs.Ascending.{IsAscending}
use Rattle.ml_graph.specs.Graph.{Graph, node_at, prop_at}
use Rattle.ml_graph.specs.declared.node.Node.{Node}
use Rattle.ml_graph.specs.declared.node.Node.TheVariants as node
use Rattle.ml_labelled.specs.declared.labelled.Literal.{Literal}
use Rattle.ml_labelled.specs.Labelled.{Fits, IsTrueIn, Letter, has}
use Rattle.ml_word_automaton.specs.Letters.{Automaton, node_of}
use Rattle.ml_word_automaton.specs.WordAutomaton.{IsTrueNode, Walks, itself, past_same, past_true, to_left, to_right}
use Rattle.ml_translate.specs.Places.{GoesOn, GoesOnAt, IsPlace, Names, PassesNode, Place, begins, goes_on}
use Rattle.ml_translate.specs.private.Finding.{props_of}
use Rattle.ml_translate.proofs.Cubes.{fits_joined, some_joined}

-- ---- what cubes keep

module _ (g : Graph) (props : List (List ℕ)) where
  passed_ascends : (v : Node) (c d : List Literal)
      → PassesNode g props v c d
      → IsAscending (props_of c)
      → IsAscending (props_of d)
  passed_ascends node.True c d same ascend = subst (λ (x : List Literal). IsAscending (props_of x)) (sym same) ascend
  passed_ascends (node.Lit k b) c d (l, names, joined) ascend = joined.ascends
  passed_ascends node.False c d none ascend = absurd none
  passed_ascends (node.And x y) c d none ascend = absurd none
  passed_ascends (node.Or x y) c d none ascend = absurd none
  passed_ascends (node.Diamond x y) c d none ascend = absurd none
  passed_ascends (node.Square x y) c d none ascend = absurd none

  same_ascends : (c d : List Literal) → d ≡ c → IsAscending (props_of c) → IsAscending (props_of d)
  same_ascends c d same ascend = subst (λ (x : List Literal). IsAscending (props_of x)) (sym same) ascend

  on_ascends : (v : Node) (c d : List Literal) (m : ℕ)
      → GoesOnAt g props v c m d
      → IsAscending (props_of c)
      → IsAscending (props_of d)
  on_ascends (node.And l r) c d m (at, inl both) ascend = same_ascends c d both.1 ascend
  on_ascends (node.And l r) c d m (at, inr both) ascend = passed_ascends (node_at g l) c d both.1 ascend
  on_ascends (node.Or l r) c d m (at, same) ascend = same_ascends c d same ascend
  on_ascends node.True c d m none ascend = absurd none
  on_ascends node.False c d m none ascend = absurd none
  on_ascends (node.Lit k b) c d m none ascend = absurd none
  on_ascends (node.Diamond x y) c d m none ascend = absurd none
  on_ascends (node.Square x y) c d m none ascend = absurd none

pub ascends_place : (a : Automaton) (props : List (List ℕ)) (s : Place) → IsPlace a props s → IsAscending (props_of s.cube)
ascends_place a props _ (begins p low) = tt
ascends_place a props _ (goes_on s n c is on) =
    on_ascends a.graph props (node_at a.graph s.node) s.cube c n on (ascends_place a props s is)

-- ---- under a letter

-- the literal that a number names says of its name what it says of its number
true_literal : (g : Graph) (props : List (List ℕ)) (letter : Letter) (k : ℕ) (b : Bool) (l : Literal)
    → Names g props k b l
    → IsTrueIn props letter l
    → has letter (prop_at g k) ≡ b
true_literal g props letter k b l names is_true =
    ap (has letter) (sym (get_or_from_slice_get props l.prop (prop_at g k) [] names.name)) ∙ is_true ∙ names.sign

literal_true : (g : Graph) (props : List (List ℕ)) (letter : Letter) (k : ℕ) (b : Bool) (l : Literal)
    → Names g props k b l
    → has letter (prop_at g k) ≡ b
    → IsTrueIn props letter l
literal_true g props letter k b l names is =
    ap (has letter) (get_or_from_slice_get props l.prop (prop_at g k) [] names.name) ∙ is ∙ sym names.sign

module _ (g : Graph) (props : List (List ℕ)) (letter : Letter) where
  -- where what a cube becomes fits a letter, the state node is true in it, and the cube fitted it
  passed_true : (v : Node) (c d : List Literal)
      → PassesNode g props v c d
      → Fits props letter d
      → IsTrueNode g letter v × Fits props letter c
  passed_true node.True c d same fits = (tt, subst (Fits props letter) same fits)
  passed_true (node.Lit k b) c d (l, names, joined) fits = (
    true_literal g props letter k b l names (fits l ((joined.literals l).1 (inr refl))),
    λ m i. fits m ((joined.literals m).1 (inl i)),
  )
  passed_true node.False c d none fits = absurd none
  passed_true (node.And x y) c d none fits = absurd none
  passed_true (node.Or x y) c d none fits = absurd none
  passed_true (node.Diamond x y) c d none fits = absurd none
  passed_true (node.Square x y) c d none fits = absurd none

  walked_on : (p n m : ℕ) (c d : List Literal) (v : Node)
      → node_at g n ≡ v
      → GoesOnAt g props v c m d
      → Fits props letter d
      → (Fits props letter c → Walks g letter p n)
      → Walks g letter p m
  walked_on p n m c d (node.And l r) is (at, inl (same, kept)) fits walk =
      subst (Walks g letter p) (sym at) (past_same n l r (walk (subst (Fits props letter) kept fits)) is same)
  walked_on p n m c d (node.And l r) is (at, inr (other, passes)) fits walk =
      let so = passed_true (node_at g l) c d passes fits in
      subst (Walks g letter p) (sym at) (past_true n l r (walk so.1) is so.0)
  walked_on p n m c d (node.Or l r) is (inl at, kept) fits walk =
      subst (Walks g letter p) (sym at) (to_left n l r (walk (subst (Fits props letter) kept fits)) is)
  walked_on p n m c d (node.Or l r) is (inr at, kept) fits walk =
      subst (Walks g letter p) (sym at) (to_right n l r (walk (subst (Fits props letter) kept fits)) is)
  walked_on p n m c d node.True is none fits walk = absurd none
  walked_on p n m c d node.False is none fits walk = absurd none
  walked_on p n m c d (node.Lit k b) is none fits walk = absurd none
  walked_on p n m c d (node.Diamond x y) is none fits walk = absurd none
  walked_on p n m c d (node.Square x y) is none fits walk = absurd none

pub walk_of : (a : Automaton) (props : List (List ℕ)) (letter : Letter) (s : Place)
    → IsPlace a props s
    → Fits props letter s.cube
    → Walks a.graph letter (node_of a s.state) s.node
walk_of a props letter _ (begins p low) fits = itself
walk_of a props letter _ (goes_on s n c is on) fits =
    walked_on a.graph props letter (node_of a s.state) s.node n s.cube c (node_at a.graph s.node) refl on fits
    (walk_of a props letter s is)

-- ---- the other way round

-- the literals of the graph name propositions that are listed
abbrev pub KnowsLiterals : Graph → List (List ℕ) → Type 0
KnowsLiterals g props = (n k : ℕ) (b : Bool) → node_at g n ≡ node.Lit k b → (i : ℕ) × (slice_get props i ≡ Some (prop_at g k))

module _ (a : Automaton) (props : List (List ℕ)) (letter : Letter) (knows : KnowsLiterals a.graph props) (p : ℕ) where
  abbrev g : Graph
  g = a.graph

  pub record PlaceAt (n : ℕ) : Type 0 where
    pub cube : List Literal
    pub is_place : IsPlace a props (record { state = p; node = n; cube = cube })
    pub fits : Fits props letter cube

  further_on : (n m : ℕ) (q : PlaceAt n) (d : List Literal) → GoesOn g props n q.cube m d → Fits props letter d → PlaceAt m
  further_on n m q d on fits = record {
    cube = d;
    is_place = goes_on (record { state = p; node = n; cube = q.cube }) m d q.is_place on;
    fits = fits;
  }

  passed : (l : ℕ) (v : Node) (c : List Literal)
      → node_at g l ≡ v
      → IsAscending (props_of c)
      → Fits props letter c
      → IsTrueNode g letter v
      → (d : List Literal) × PassesNode g props v c d × Fits props letter d
  passed l node.True c is ascend fits t = (c, refl, fits)
  passed l (node.Lit k b) c is ascend fits t =
      let named = knows l k b is in
      let m : Literal = record { prop = named.0; positive = b } in
      let names : Names g props k b m = record { name = named.1; sign = refl } in
      let is_true = literal_true g props letter k b m names t in
      let j = some_joined props letter c m ascend fits is_true in
      (j.0, (m, names, j.1), fits_joined props letter c j.0 m j.1 fits is_true)
  passed l node.False c is ascend fits t = absurd t
  passed l (node.And x y) c is ascend fits t = absurd t
  passed l (node.Or x y) c is ascend fits t = absurd t
  passed l (node.Diamond x y) c is ascend fits t = absurd t
  passed l (node.Square x y) c is ascend fits t = absurd t

  go_same : (n l r : ℕ) → node_at g n ≡ node.And l r → l ≡ r → PlaceAt n → PlaceAt r
  go_same n l r is same q =
      further_on n r q q.cube (subst (λ v. GoesOnAt g props v q.cube r q.cube) (sym is) (refl, inl (same, refl))) q.fits

  go_past : (n l r : ℕ) → node_at g n ≡ node.And l r → IsTrueNode g letter (node_at g l) → PlaceAt n → PlaceAt r
  go_past n l r is t q = by (cases_eq l r)
    where
      by : (l ≡ r) ⊎ (l ≡ r → ⊥) → PlaceAt r
      by (inl same) = go_same n l r is same q
      by (inr other) =
          let ascend = ascends_place a props (record { state = p; node = n; cube = q.cube }) q.is_place in
          let d = passed l (node_at g l) q.cube refl ascend q.fits t in
          further_on n r q d.0 (subst (λ v. GoesOnAt g props v q.cube r d.0) (sym is) (refl, inr (other, d.1))) d.2

  pub place_at_walk : (n : ℕ) → p < length a.states → Walks g letter (node_of a p) n → PlaceAt n
  place_at_walk _ low itself = record { cube = []; is_place = begins p low; fits = λ l m. absurd m }
  place_at_walk _ low (past_same n l r walks is same) = go_same n l r is same (place_at_walk n low walks)
  place_at_walk _ low (past_true n l r walks is t) = go_past n l r is t (place_at_walk n low walks)
  place_at_walk _ low (to_left n l r walks is) =
      let q = place_at_walk n low walks in
      further_on n l q q.cube (subst (λ v. GoesOnAt g props v q.cube l q.cube) (sym is) (inl refl, refl)) q.fits
  place_at_walk _ low (to_right n l r walks is) =
      let q = place_at_walk n low walks in
      further_on n r q q.cube (subst (λ v. GoesOnAt g props v q.cube r q.cube) (sym is) (inr refl, refl)) q.fits
