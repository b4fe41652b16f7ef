-- The edges that places make, and the automaton that has them.
--
--   some_numbers == the states of an automaton have numbers
--   some_edges   == the places make edges
--   some_made    == so there is an automaton with these edges
use Rattle.std.proofs.Common.{ℕ, ◌≡◌, ◌<◌, ◌≤◌, ◌⊎◌, ◌↔◌, ◌==◌, inl, inr, arith, true, nat_eq, List, [], ◌∷◌, length, map, get_or, refl, sym, ◌∙◌, subst}
use Rattle.std.specs.List.{flat_map, range_with_len}
use Rattle.std.proofs.lemmas.Bool.{cases_eq, cases_lt}
use Rattle.std.proofs.lemmas.List.{get_or_past}
use Rattle.std.proofs.lemmas.List.FromFn.{get_or-map-range_with_len, length-map-range_with_len}
use Rattle.std.proofs.lemmas.Option.{get_or_from_slice_get}
use Rattle.std.proofs.lemmas.Bool.Decides.{Decides-eqb}
use Rattle.ml_lists.specs.Member.{IsMember}
use Rattle.ml_lists.proofs.FirstEntries.{number, number_is, number_low}
use Rattle.ml_lists.proofs.Member.{member-flat_map, member-flat_map_from, place-member}
use Rattle.ml_graph.specs.Graph.{Graph, IsGraph, node_at, priority_at, size}
use Rattle.ml_graph.specs.declared.node.Node.{Node}
use Rattle.ml_graph.specs.declared.node.Node.TheVariants as node
use Rattle.ml_labelled.specs.Labelled as labelled
use Rattle.ml_labelled.specs.Labelled.{Edge}
use Rattle.ml_word_automaton.specs.Letters.{Automaton, HasItsStates, node_of}
use Rattle.ml_word_automaton.proofs.HeldTransitions.{state_low}
use Rattle.ml_word_automaton.proofs.NumberedStates.{one_place, state_at}
use Rattle.ml_translate.specs.Places.{Place}
use Rattle.ml_translate.specs.private.Finding.{AllFit, ArePlaces, AreStateNumbers, HaveEdges, IsMadeOf, Makes, MakesAt, row_at}
use Rattle.ml_translate.proofs.FitPlaces.{all_fit}

-- ---- numbers of states

some_numbers : (a : Automaton) → IsGraph a.graph → HasItsStates a → (numbers : List ℕ) × AreStateNumbers a numbers
some_numbers a ok has = (
  map (number nat_eq a.states) (range_with_len 0 (size a.graph)),
  record {
    as_long = length-map-range_with_len (number nat_eq a.states) 0 (size a.graph);
    are = λ p low.
        let m = place-member a.states p 0 low in
        let within = state_low a.graph ok (node_of a p) (state_at a has p low) in
        let at = number_is nat_eq Decides-eqb a.states (node_of a p) m in
        get_or-map-range_with_len (number nat_eq a.states) 0 (size a.graph) (node_of a p) (node_of a p) 0 within (omega arith)
        ∙ one_place a.states has.ascend (number nat_eq a.states (node_of a p)) p
        (number_low nat_eq Decides-eqb a.states (node_of a p) m) low
        (get_or_from_slice_get a.states (number nat_eq a.states (node_of a p)) (node_of a p) 0 at);
  },
)

-- ---- edges

module _ (g : Graph) (numbers : List ℕ) where
  abbrev made_at : Node → Place → List Edge
  made_at (node.Diamond action q) s =
      record { cube = s.cube; to = get_or numbers q 0; accepting = priority_at g s.node == 0 } ∷ []
  made_at node.True s = record { cube = s.cube; to = get_or numbers s.node 0; accepting = true } ∷ []
  made_at node.False s = []
  made_at (node.Lit k b) s = []
  made_at (node.And l r) s = []
  made_at (node.Or l r) s = []
  made_at (node.Square action q) s = []

  only : (e f : Edge) → IsMember e (f ∷ []) → e ≡ f
  only e f (inl same) = same
  only e f (inr none) = absurd none

  member_made : (v : Node) (s : Place) (e : Edge) → IsMember e (made_at v s) ↔ MakesAt g numbers v s e
  member_made (node.Diamond action q) s e = (only e _, λ same. inl same)
  member_made node.True s e = (only e _, λ same. inl same)
  member_made node.False s e = ((λ m. m), (λ m. m))
  member_made (node.Lit k b) s e = ((λ m. m), (λ m. m))
  member_made (node.And l r) s e = ((λ m. m), (λ m. m))
  member_made (node.Or l r) s e = ((λ m. m), (λ m. m))
  member_made (node.Square action q) s e = ((λ m. m), (λ m. m))

  -- the edge of a place, if it is one of the state p
  abbrev made_from : (p : ℕ) (s : Place) → (p ≡ s.state) ⊎ (p ≡ s.state → ⊥) → List Edge
  made_from p s (inl same) = made_at (node_at g s.node) s
  made_from p s (inr other) = []

  from_made : (p : ℕ) (s : Place) (e : Edge) (d : (p ≡ s.state) ⊎ (p ≡ s.state → ⊥))
      → IsMember e (made_from p s d)
      → (p ≡ s.state) × Makes g numbers s e
  from_made p s e (inl same) m = (same, (member_made (node_at g s.node) s e).0 m)
  from_made p s e (inr other) m = absurd m

  is_made : (p : ℕ) (s : Place) (e : Edge) (d : (p ≡ s.state) ⊎ (p ≡ s.state → ⊥))
      → p ≡ s.state
      → Makes g numbers s e
      → IsMember e (made_from p s d)
  is_made p s e (inl same) at makes = (member_made (node_at g s.node) s e).1 makes
  is_made p s e (inr other) at makes = absurd (other at)

  module _ (states : ℕ) (xs : List Place) where
    abbrev made_of : ℕ → Place → List Edge
    made_of p s = made_from p s (cases_eq p s.state)

    abbrev row : ℕ → List Edge
    row p = flat_map (made_of p) xs

    abbrev pub rows : List (List Edge)
    rows = map row (range_with_len 0 states)

    row_is : (p : ℕ) → p < states → row_at rows p ≡ row p
    row_is p low = get_or-map-range_with_len row 0 states p p [] low (omega arith)

    pub some_edges : AllFit (size g) states xs → HaveEdges g numbers xs rows
    some_edges fit p e = (λ m. there (cases_lt p states) m, back)
      where
        there : (p < states) ⊎ (states ≤ p)
            → IsMember e (row_at rows p)
            → (s : Place) × IsMember s xs × (p ≡ s.state) × Makes g numbers s e
        there (inl low) m =
            let l = member-flat_map_from (made_of p) e xs (subst (IsMember e) (row_is p low) m) in
            let so = from_made p l.from e (cases_eq p (l.from).state) l.inside in
            (l.from, l.member, so.0, so.1)
        there (inr high) m =
            let long = length-map-range_with_len row 0 states in
            absurd (subst (IsMember e) (get_or_past rows p [] (omega (arith, long, high))) m)

        back : (s : Place) × IsMember s xs × (p ≡ s.state) × Makes g numbers s e → IsMember e (row_at rows p)
        back (s, m, at, makes) =
            let low = (fit s m).1 in
            subst (IsMember e) (sym (row_is p (omega (arith, low, at))))
            (member-flat_map (made_of p) s e xs m (is_made p s e (cases_eq p s.state) at makes))

-- ---- the automaton

pub some_made : (a : Automaton) (props : List (List ℕ)) (limit : ℕ) (xs : List Place)
    → IsGraph a.graph
    → HasItsStates a
    → ArePlaces a props xs
    → length xs ≤ limit
    → (b : labelled.Automaton) × IsMadeOf a props limit b
some_made a props limit xs ok has are few =
    let ns = some_numbers a ok has in (
      record { props = props; edges = rows a.graph ns.0 (length a.states) xs },
      record {
        places = xs;
        are_places = are;
        few = few;
        same_props = refl;
        as_many = length-map-range_with_len (row a.graph ns.0 (length a.states) xs) 0 (length a.states);
        have_edges = record {
          numbers = ns.0;
          are_numbers = ns.1;
          have_edges = some_edges a.graph ns.0 (length a.states) xs (all_fit a props has ok xs are);
        };
      },
    )
