-- The tree of all offers.
--
--   Made r to f o            == o is an offer: the stack of a place of f, along a move
--   moved-from, moved-has, moved-tail == the places of the tree of all offers are the offers, and those of the tail
--   moved-names, moved-apart == its names are those of the tree, each once as it is and once with r added
--   moved-bound              == so they are below 2r
--   moved-rise               == its ages rise
--   moved-root               == it has one root
use Rattle.std.proofs.Common.{ℕ, ◌≡◌, ◌≢◌, ◌+◌, ◌*◌, ◌<◌, ◌≤◌, ◌⊎◌, inl, inr, arith, Bool, true, false, List, [], ◌∷◌, ◌++◌, map, refl, sym, subst, ap, ◌∙◌}
use Rattle.std.proofs.lemmas.Bool.{cases_lt}
use Rattle.std.proofs.lemmas.List.{map-append}
use Rattle.std.specs.List.{flat_map}
use Rattle.ml_lists.specs.Member.{IsMember}
use Rattle.ml_lists.proofs.Member.{Image, member-map, member-map_from, member-append, member-append_left, member-append_right, member-flat_map, member-flat_map_from}
use Rattle.ml_trace.specs.Stack.{Item}
use Rattle.ml_history.specs.private.Forest.{Forest, Empty, Tree, names, lies_at, below, places, AgesRise, HasOneRoot}
use Rattle.ml_lists.specs.Times.{IsApart, times}
use Rattle.ml_history.specs.HistoryStep.{offered}
use Rattle.ml_history.specs.private.TreeStep.{moved}
use Rattle.ml_history.proofs.trees.Forests.{places-not_empty}
use Rattle.ml_lists.proofs.Times.{times-append, times-member, member-times, times-no_member, apart-times, times-apart, times-map}

-- o is an offer: the stack of a place of f, along a move
pub record Made (r : ℕ) (to : Bool → ℕ → List ℕ) (f : Forest) (o : Item ℕ) : Type 0 where
  pub source : Item ℕ
  pub member : IsMember source (places f)
  pub accepting : Bool
  pub target : IsMember o.state (to accepting source.state)
  pub stack_is : o.stack ≡ offered r accepting source.stack

-- what is offered with a name in front is what is offered, with the name in front
offered-below : (r : ℕ) (accepting : Bool) (x : ℕ) (s : List ℕ)
    → s ≢ []
    → x ∷ offered r accepting s ≡ offered r accepting (x ∷ s)
offered-below r accepting x [] full = absurd (full refl)
offered-below r true x (y ∷ ys) full = refl
offered-below r false x (y ∷ ys) full = refl

-- the child that takes the targets along accepting moves
abbrev pub new_child : ℕ → (Bool → ℕ → List ℕ) → ℕ → List ℕ → Forest
new_child r to a own = Tree (r + a) (flat_map (to true) own) Empty Empty

module _ (r : ℕ) (to : Bool → ℕ → List ℕ) where
  -- the places of the tail are places of the whole
  pub moved-tail : (tail f : Forest) (v : Item ℕ) → IsMember v (places tail) → IsMember v (places (moved r to tail f))
  moved-tail tail Empty v m = m
  moved-tail tail (Tree a o c y) v m =
      member-append_right v (map (below a) (places (moved r to (new_child r to a o) c)))
      (map (lies_at (a ∷ [])) (flat_map (to false) o) ++ places (moved r to tail y))
      (member-append_right v (map (lies_at (a ∷ [])) (flat_map (to false) o)) (places (moved r to tail y))
      (moved-tail tail y v m))

  -- offers from the parts of a forest
  made_below : (a : ℕ) (o : List ℕ) (c y : Forest) (w : Item ℕ) → Made r to c w → Made r to (Tree a o c y) (below a w)
  made_below a o c y w made = record {
    source = below a made.source;
    member = member-append_left (below a made.source) (map (below a) (places c)) (map (lies_at (a ∷ [])) o ++ places y)
        (member-map (below a) made.source (places c) made.member);
    accepting = made.accepting;
    target = made.target;
    stack_is = ap (λ s. a ∷ s) made.stack_is
        ∙ offered-below r made.accepting a made.source.stack (places-not_empty c made.source made.member);
  }

  made_here : (a : ℕ) (o : List ℕ) (c y : Forest) (accepting : Bool) (q : ℕ) (w : Item ℕ)
      → IsMember q o
      → IsMember w.state (to accepting q)
      → w.stack ≡ offered r accepting (a ∷ [])
      → Made r to (Tree a o c y) w
  made_here a o c y accepting q w m leads e = record {
    source = lies_at (a ∷ []) q;
    member = member-append_right (lies_at (a ∷ []) q) (map (below a) (places c)) (map (lies_at (a ∷ [])) o ++ places y)
        (member-append_left (lies_at (a ∷ []) q) (map (lies_at (a ∷ [])) o) (places y)
        (member-map (lies_at (a ∷ [])) q o m));
    accepting = accepting;
    target = leads;
    stack_is = e;
  }

  made_beside : (a : ℕ) (o : List ℕ) (c y : Forest) (w : Item ℕ) → Made r to y w → Made r to (Tree a o c y) w
  made_beside a o c y w made = record {
    source = made.source;
    member = member-append_right made.source (map (below a) (places c)) (map (lies_at (a ∷ [])) o ++ places y)
        (member-append_right made.source (map (lies_at (a ∷ [])) o) (places y) made.member);
    accepting = made.accepting;
    target = made.target;
    stack_is = made.stack_is;
  }

  -- each place of the tree of all offers is an offer, or one of the tail
  pub moved-from : (tail f : Forest) (v : Item ℕ)
      → IsMember v (places (moved r to tail f))
      → Made r to f v ⊎ IsMember v (places tail)
  moved-from tail Empty v m = inr m
  moved-from tail (Tree a o c y) v m =
      by_part (member-append v (map (below a) (places (moved r to (new_child r to a o) c)))
      (map (lies_at (a ∷ [])) (flat_map (to false) o) ++ places (moved r to tail y)) m)
      (moved-from (new_child r to a o) c) (moved-from tail y v)
    where
      -- what lies at a vertex along moves of its states
      along : (accepting : Bool) (s : List ℕ) (w : Item ℕ)
          → s ≡ offered r accepting (a ∷ [])
          → w.stack ≡ s
          → IsMember w.state (flat_map (to accepting) o)
          → Made r to (Tree a o c y) w
      along accepting s w e is i =
          let from = member-flat_map_from (to accepting) w.state o i in
          made_here a o c y accepting from.from w from.member from.inside (is ∙ e)

      at_vertex : Image (lies_at (a ∷ [])) v (flat_map (to false) o) → Made r to (Tree a o c y) v
      at_vertex i = along false (a ∷ []) v refl (ap (λ (u : Item ℕ). u.stack) i.holds)
          (subst (λ (u : Item ℕ). IsMember u.state (flat_map (to false) o)) (sym i.holds) i.member)

      new_one : (w : Item ℕ)
          → Image (lies_at ((r + a) ∷ [])) w (flat_map (to true) o)
          → Made r to (Tree a o c y) (below a w)
      new_one w i = along true (a ∷ ((r + a) ∷ [])) (below a w) refl (ap (λ (u : Item ℕ). a ∷ u.stack) i.holds)
          (subst (λ (u : Item ℕ). IsMember u.state (flat_map (to true) o)) (sym i.holds) i.member)

      in_tail : (w : Item ℕ)
          → IsMember w (map (lies_at ((r + a) ∷ [])) (flat_map (to true) o)) ⊎ IsMember w []
          → Made r to (Tree a o c y) (below a w)
      in_tail w (inl i) = new_one w (member-map_from (lies_at ((r + a) ∷ [])) w (flat_map (to true) o) i)
      in_tail w (inr none) = absurd none

      below_it : (w : Item ℕ)
          → Made r to c w ⊎ IsMember w (places (new_child r to a o))
          → Made r to (Tree a o c y) (below a w)
      below_it w (inl made) = made_below a o c y w made
      below_it w (inr i) = in_tail w (member-append w (map (lies_at ((r + a) ∷ [])) (flat_map (to true) o)) [] i)

      from_children : ((w : Item ℕ) → IsMember w (places (moved r to (new_child r to a o) c)) → Made r to c w
          ⊎ IsMember w (places (new_child r to a o)))
          → Image (below a) v (places (moved r to (new_child r to a o) c))
          → Made r to (Tree a o c y) v
      from_children rec i = subst (Made r to (Tree a o c y)) (sym i.holds) (below_it i.from (rec i.from i.member))

      beside : Made r to y v ⊎ IsMember v (places tail) → Made r to (Tree a o c y) v ⊎ IsMember v (places tail)
      beside (inl made) = inl (made_beside a o c y v made)
      beside (inr i) = inr i

      behind : IsMember v (map (lies_at (a ∷ [])) (flat_map (to false) o)) ⊎ IsMember v (places (moved r to tail y))
          → (IsMember v (places (moved r to tail y)) → Made r to y v ⊎ IsMember v (places tail))
          → Made r to (Tree a o c y) v ⊎ IsMember v (places tail)
      behind (inl i) rest = inl (at_vertex (member-map_from (lies_at (a ∷ [])) v (flat_map (to false) o) i))
      behind (inr i) rest = beside (rest i)

      by_part : IsMember v (map (below a) (places (moved r to (new_child r to a o) c)))
          ⊎ IsMember v (map (lies_at (a ∷ [])) (flat_map (to false) o) ++ places (moved r to tail y))
          → ((w : Item ℕ) → IsMember w (places (moved r to (new_child r to a o) c)) → Made r to c w
          ⊎ IsMember w (places (new_child r to a o)))
          → (IsMember v (places (moved r to tail y)) → Made r to y v ⊎ IsMember v (places tail))
          → Made r to (Tree a o c y) v ⊎ IsMember v (places tail)
      by_part (inl i) rec rest = inl
          (from_children rec (member-map_from (below a) v (places (moved r to (new_child r to a o) c)) i))
      by_part (inr i) rec rest = behind (member-append v (map (lies_at (a ∷ [])) (flat_map (to false) o))
          (places (moved r to tail y)) i) rest

  -- each offer is a place of the tree of all offers
  pub moved-has : (tail f : Forest) (v : Item ℕ) → Made r to f v → IsMember v (places (moved r to tail f))
  moved-has tail Empty v made = absurd made.member
  moved-has tail (Tree a o c y) v made =
      by_part (member-append made.source (map (below a) (places c)) (map (lies_at (a ∷ [])) o ++ places y) made.member)
      (moved-has (new_child r to a o) c) (moved-has tail y v)
    where
      front : (w : Item ℕ)
          → IsMember w (places (moved r to (new_child r to a o) c))
          → IsMember (below a w) (places (moved r to tail (Tree a o c y)))
      front w i = member-append_left (below a w) (map (below a) (places (moved r to (new_child r to a o) c)))
          (map (lies_at (a ∷ [])) (flat_map (to false) o) ++ places (moved r to tail y))
          (member-map (below a) w (places (moved r to (new_child r to a o) c)) i)

      from_children : ((w : Item ℕ) → Made r to c w → IsMember w (places (moved r to (new_child r to a o) c)))
          → Image (below a) made.source (places c)
          → IsMember v (places (moved r to tail (Tree a o c y)))
      from_children rec i =
          let w : Item ℕ = record { state = v.state; stack = offered r made.accepting i.from.stack } in
          let of_w : Made r to c w = record {
            source = i.from;
            member = i.member;
            accepting = made.accepting;
            target = subst (λ (u : Item ℕ). IsMember v.state (to made.accepting u.state)) i.holds made.target;
            stack_is = refl;
          }
          in
          let stacks : a ∷ offered r made.accepting i.from.stack ≡ v.stack =
          offered-below r made.accepting a i.from.stack (places-not_empty c i.from i.member)
          ∙ ap (λ (u : Item ℕ). offered r made.accepting u.stack) (sym i.holds) ∙ sym made.stack_is
          in
          subst (λ s. IsMember (record { state = v.state; stack = s }) (places (moved r to tail (Tree a o c y)))) stacks
          (front w (rec w of_w))

      by_kind : (accepting : Bool) (q : ℕ)
          → IsMember q o
          → IsMember v.state (to accepting q)
          → offered r accepting (a ∷ []) ≡ v.stack
          → IsMember v (places (moved r to tail (Tree a o c y)))
      by_kind true q m leads e =
          let w : Item ℕ = lies_at ((r + a) ∷ []) v.state in
          let inside : IsMember w (places (new_child r to a o)) =
          member-append_left w (map (lies_at ((r + a) ∷ [])) (flat_map (to true) o)) []
          (member-map (lies_at ((r + a) ∷ [])) v.state (flat_map (to true) o)
          (member-flat_map (to true) q v.state o m leads))
          in
          subst (λ s. IsMember (record { state = v.state; stack = s }) (places (moved r to tail (Tree a o c y)))) e
          (front w (moved-tail (new_child r to a o) c w inside))
      by_kind false q m leads e =
          let w : Item ℕ = lies_at (a ∷ []) v.state in
          let inside = member-map (lies_at (a ∷ [])) v.state (flat_map (to false) o)
          (member-flat_map (to false) q v.state o m leads) in
          subst (λ s. IsMember (record { state = v.state; stack = s }) (places (moved r to tail (Tree a o c y)))) e
          (member-append_right w (map (below a) (places (moved r to (new_child r to a o) c)))
          (map (lies_at (a ∷ [])) (flat_map (to false) o) ++ places (moved r to tail y))
          (member-append_left w (map (lies_at (a ∷ [])) (flat_map (to false) o)) (places (moved r to tail y)) inside))

      from_here : Image (lies_at (a ∷ [])) made.source o → IsMember v (places (moved r to tail (Tree a o c y)))
      from_here i =
          by_kind made.accepting i.from i.member
          (subst (λ (u : Item ℕ). IsMember v.state (to made.accepting u.state)) i.holds made.target)
          (ap (λ (u : Item ℕ). offered r made.accepting u.stack) (sym i.holds) ∙ sym made.stack_is)

      beside : IsMember v (places (moved r to tail y)) → IsMember v (places (moved r to tail (Tree a o c y)))
      beside i =
          member-append_right v (map (below a) (places (moved r to (new_child r to a o) c)))
          (map (lies_at (a ∷ [])) (flat_map (to false) o) ++ places (moved r to tail y))
          (member-append_right v (map (lies_at (a ∷ [])) (flat_map (to false) o)) (places (moved r to tail y)) i)

      behind : IsMember made.source (map (lies_at (a ∷ [])) o) ⊎ IsMember made.source (places y)
          → (Made r to y v → IsMember v (places (moved r to tail y)))
          → IsMember v (places (moved r to tail (Tree a o c y)))
      behind (inl i) rest = from_here (member-map_from (lies_at (a ∷ [])) made.source o i)
      behind (inr i) rest = beside
          (rest (record {
            source = made.source;
            member = i;
            accepting = made.accepting;
            target = made.target;
            stack_is = made.stack_is;
          }))

      by_part : IsMember made.source (map (below a) (places c))
          ⊎ IsMember made.source (map (lies_at (a ∷ [])) o ++ places y)
          → ((w : Item ℕ) → Made r to c w → IsMember w (places (moved r to (new_child r to a o) c)))
          → (Made r to y v → IsMember v (places (moved r to tail y)))
          → IsMember v (places (moved r to tail (Tree a o c y)))
      by_part (inl i) rec rest = from_children rec (member-map_from (below a) made.source (places c) i)
      by_part (inr i) rec rest = behind (member-append made.source (map (lies_at (a ∷ [])) o) (places y) i) rest

  -- ---- names

  -- the names of the tree of all offers are those of the tree, each once as it is and once with r added
  pub moved-names : (tail f : Forest) (z : ℕ)
      → times z (names (moved r to tail f))
      ≡ times z (names f) + times z (map (λ x. r + x) (names f)) + times z (names tail)
  moved-names tail Empty z = omega arith
  moved-names tail (Tree a o c y) z =
      let children = moved-names (new_child r to a o) c z in
      let younger = moved-names tail y z in
      let whole = times-append z (names (moved r to (new_child r to a o) c)) (a ∷ names (moved r to tail y)) in
      let old = times-append z (names c) (a ∷ names y) in
      let images = ap (times z) (map-append (λ x. r + x) (names c) (a ∷ names y))
      ∙ times-append z (map (λ x. r + x) (names c)) ((r + a) ∷ map (λ x. r + x) (names y)) in
      omega arith

  -- so no name stands twice, where those of the tree are below r
  module _ (f : Forest) (apart : IsApart (names f)) (low : (x : ℕ) → IsMember x (names f) → x < r) where
    not_low : (z : ℕ) → z < r → IsMember z (map (λ x. r + x) (names f)) → ⊥
    not_low z small m = let i = member-map_from (λ x. r + x) z (names f) m in let e = i.holds in omega arith

    pub moved-apart : IsApart (names (moved r to Empty f))
    moved-apart = times-apart (names (moved r to Empty f)) (λ z. by_size z (cases_lt z r))
      where
        by_size : (z : ℕ) → (z < r) ⊎ (r ≤ z) → times z (names (moved r to Empty f)) ≤ 1
        by_size z (inl small) =
            let all = moved-names Empty f z in
            let none = times-no_member z (map (λ x. r + x) (names f)) (not_low z small) in
            let once = apart-times z (names f) apart in
            omega arith
        by_size z (inr large) =
            let all = moved-names Empty f z in
            let none = times-no_member z (names f) (λ m. let small = low z m in omega arith) in
            let once = apart-times z (map (λ x. r + x) (names f))
            (times-map (λ x. r + x) (names f) (λ v w mv mw e. omega arith) apart) in
            omega arith

    -- and they are below 2r
    pub moved-bound : (z : ℕ) → IsMember z (names (moved r to Empty f)) → z < 2 * r
    moved-bound z m = by_size (cases_lt z r)
      where
        from_image : Image (λ x. r + x) z (names f) → z < 2 * r
        from_image i = let small = low i.from i.member in let e = i.holds in omega arith

        by_size : (z < r) ⊎ (r ≤ z) → z < 2 * r
        by_size (inl small) = omega arith
        by_size (inr large) =
            let all = moved-names Empty f z in
            let none = times-no_member z (names f) (λ i. let small = low z i in omega arith) in
            let one = times-member z (names (moved r to Empty f)) m in
            from_image (member-map_from (λ x. r + x) z (names f)
            (member-times z (map (λ x. r + x) (names f)) (omega arith)))

  -- ---- ages

  -- ages rise
  pub moved-rise : (x : ℕ) (tail f : Forest)
      → AgesRise x f
      → ((z : ℕ) → IsMember z (names f) → z < r)
      → ((z : ℕ) → z ≤ r → AgesRise z tail)
      → x ≤ r
      → AgesRise x (moved r to tail f)
  moved-rise x tail Empty rise low rest le = rest x le
  moved-rise x tail (Tree a o c y) rise low rest le =
      let small = low a (member-append_right a (names c) (a ∷ names y) (inl refl)) in (
        rise.0,
        moved-rise (a + 1) (new_child r to a o) c rise.1 (λ z m. low z (member-append_left z (names c) (a ∷ names y) m))
            (λ z zr. ((omega arith), tt, tt)) (omega arith),
        moved-rise (a + 1) tail y rise.2 (λ z m. low z (member-append_right z (names c) (a ∷ names y) (inr m))) rest
            (omega arith),
      )

  -- one root
  pub moved-root : (f : Forest) → HasOneRoot f → HasOneRoot (moved r to Empty f)
  moved-root Empty one = tt
  moved-root (Tree a o c y) one = ap (moved r to Empty) one
