-- Forests: the states that lie in them, with their stacks.
--
--   places-states                     == the places have the states of the forest
--   Under, places-cases               == a state lies in the first tree, or among the younger siblings
--   places-not_empty                  == no stack is empty
--   places-names                      == the names of the stacks are those of the forest
--   OwnsSome, owns-some               == at each vertex lies some state
--   Lying, names-places               == at each vertex some stack ends
--   ages-names                        == each age is at least the bound from which ages rise
--   places-ascend                     == stacks ascend
--   places-agree                      == two stacks that share a name agree up to it
use Rattle.std.proofs.Common.{ℕ, ◌≡◌, ◌≢◌, ◌+◌, ◌<◌, ◌≤◌, ◌⊎◌, inl, inr, arith, true, eqb, List, [], ◌∷◌, ◌++◌, map, refl, sym, subst, ap, ◌∙◌}
use Rattle.std.proofs.lemmas.Bool.{cases_eq, eq-eqb, ne_eqb}
use Rattle.std.proofs.lemmas.List.{map-append}
use Rattle.ml_lists.specs.Ascending.{IsAscending}
use Rattle.ml_lists.specs.Member.{IsMember}
use Rattle.ml_lists.proofs.Member.{Image, member-map, member-map_from, member-append, member-append_left, member-append_right}
use Rattle.ml_trace.specs.Stack.{Item, ends_in}
use Rattle.ml_trace.proofs.Stacks.{ends-cons}
use Rattle.ml_history.specs.private.Forest.{Forest, Empty, Tree, names, states, lies_at, below, places, AgesRise, OwnsAreSets}
use Rattle.ml_lists.specs.Times.{IsApart}
use Rattle.ml_history.specs.History.{up_to}
use Rattle.ml_history.proofs.trees.ItemsByState.{state_of}
use Rattle.ml_history.proofs.definition.CutStacks.{through-stops, through-goes}
use Rattle.ml_lists.proofs.Times.{apart-left, apart-right, apart-both}

-- ---- states

-- items seen from the parent have their states
pub states-below : (x : ℕ) (ts : List (Item ℕ)) → map state_of (map (below x) ts) ≡ map state_of ts
states-below x [] = refl
states-below x (t ∷ ts) = ap (λ v. t.state ∷ v) (states-below x ts)

-- items that are made for states have these
pub states-lies : (s qs : List ℕ) → map state_of (map (lies_at s) qs) ≡ qs
states-lies s [] = refl
states-lies s (q ∷ qs) = ap (λ v. q ∷ v) (states-lies s qs)

-- the places have the states of the forest
pub places-states : (f : Forest) → map state_of (places f) ≡ states f
places-states Empty = refl
places-states (Tree a o c y) =
    map-append state_of (map (below a) (places c)) (map (lies_at (a ∷ [])) o ++ places y)
    ∙ ap (λ v. v ++ map state_of (map (lies_at (a ∷ [])) o ++ places y)) (states-below a (places c) ∙ places-states c)
    ∙ ap (λ v. states c ++ v) (map-append state_of (map (lies_at (a ∷ [])) o) (places y)
    ∙ ap (λ v. v ++ map state_of (places y)) (states-lies (a ∷ []) o) ∙ ap (λ v. o ++ v) (places-states y))

-- ---- where a state lies

-- the stack of v begins at the vertex a, and ends there or goes on among its children c
pub record Under (a : ℕ) (c : Forest) (v : Item ℕ) : Type 0 where
  pub rest : List ℕ
  pub stack_is : v.stack ≡ a ∷ rest
  pub goes_on : (rest ≡ []) ⊎ ((w : Item ℕ) × IsMember w (places c) × (rest ≡ w.stack))

-- a state lies in the first tree, or among the younger siblings
pub places-cases : (a : ℕ) (o : List ℕ) (c y : Forest) (v : Item ℕ)
    → IsMember v (places (Tree a o c y))
    → Under a c v ⊎ IsMember v (places y)
places-cases a o c y v m = first (member-append v (map (below a) (places c)) (map (lies_at (a ∷ [])) o ++ places y) m)
  where
    in_children : Image (below a) v (places c) → Under a c v
    in_children i = record {
      rest = i.from.stack;
      stack_is = ap (λ (u : Item ℕ). u.stack) i.holds;
      goes_on = inr (i.from, i.member, refl);
    }

    here : Image (lies_at (a ∷ [])) v o → Under a c v
    here i = record { rest = []; stack_is = ap (λ (u : Item ℕ). u.stack) i.holds; goes_on = inl refl }

    second : IsMember v (map (lies_at (a ∷ [])) o) ⊎ IsMember v (places y) → Under a c v ⊎ IsMember v (places y)
    second (inl m2) = inl (here (member-map_from (lies_at (a ∷ [])) v o m2))
    second (inr m2) = inr m2

    first : IsMember v (map (below a) (places c)) ⊎ IsMember v (map (lies_at (a ∷ [])) o ++ places y)
        → Under a c v ⊎ IsMember v (places y)
    first (inl m1) = inl (in_children (member-map_from (below a) v (places c) m1))
    first (inr m1) = second (member-append v (map (lies_at (a ∷ [])) o) (places y) m1)

-- no stack is empty
pub places-not_empty : (f : Forest) (v : Item ℕ) → IsMember v (places f) → v.stack ≢ []
places-not_empty Empty v m = absurd m
places-not_empty (Tree a o c y) v m = by_part (places-cases a o c y v m) (places-not_empty y v)
  where
    by_part : Under a c v ⊎ IsMember v (places y) → (IsMember v (places y) → v.stack ≢ []) → v.stack ≢ []
    by_part (inl u) rest = λ e. let wrong = sym u.stack_is ∙ e in cc
    by_part (inr my) rest = rest my

-- the names of a stack are names of the forest
pub places-names : (f : Forest) (v : Item ℕ) (z : ℕ) → IsMember v (places f) → IsMember z v.stack → IsMember z (names f)
places-names Empty v z m n = absurd m
places-names (Tree a o c y) v z m n = by_part (places-cases a o c y v m) (λ w. places-names c w z) (places-names y v z)
  where
    in_rest : (u : Under a c v)
        → (rest_names : (w : Item ℕ) → IsMember w (places c) → IsMember z w.stack → IsMember z (names c))
        → (u.rest ≡ []) ⊎ ((w : Item ℕ) × IsMember w (places c) × (u.rest ≡ w.stack))
        → IsMember z u.rest
        → IsMember z (names (Tree a o c y))
    in_rest u rec (inl e) i = absurd (subst (λ s. IsMember z s) e i)
    in_rest u rec (inr g) i = member-append_left z (names c) (a ∷ names y)
        (rec g.0 g.1 (subst (λ s. IsMember z s) g.2 i))

    in_stack : (u : Under a c v)
        → ((w : Item ℕ) → IsMember w (places c) → IsMember z w.stack → IsMember z (names c))
        → (z ≡ a) ⊎ IsMember z u.rest
        → IsMember z (names (Tree a o c y))
    in_stack u rec (inl same) = member-append_right z (names c) (a ∷ names y) (inl same)
    in_stack u rec (inr i) = in_rest u rec u.goes_on i

    by_part : Under a c v ⊎ IsMember v (places y)
        → ((w : Item ℕ) → IsMember w (places c) → IsMember z w.stack → IsMember z (names c))
        → (IsMember v (places y) → IsMember z v.stack → IsMember z (names y))
        → IsMember z (names (Tree a o c y))
    by_part (inl u) rec rest = in_stack u rec (subst (λ s. IsMember z s) u.stack_is n)
    by_part (inr my) rec rest = member-append_right z (names c) (a ∷ names y) (inr (rest my n))

-- a state that lies at the vertex z
pub record Lying (f : Forest) (z : ℕ) : Type 0 where
  pub item : Item ℕ
  pub member : IsMember item (places f)
  pub ends : ends_in z item.stack ≡ true

-- the first of some states
first_of : (o : List ℕ) → o ≢ [] → (q : ℕ) × IsMember q o
first_of [] full = absurd (full refl)
first_of (q ∷ qs) full = (q, inl refl)

-- at each vertex lies some state
abbrev pub OwnsSome : Forest → Type 0
OwnsSome Empty = Unit {0}
OwnsSome (Tree a o c y) = (o ≢ []) × OwnsSome c × OwnsSome y

pub owns-some : (f : Forest) → OwnsAreSets f → OwnsSome f
owns-some Empty owns = tt
owns-some (Tree a o c y) owns = (owns.0, owns-some c owns.2, owns-some y owns.3)

-- at each vertex some stack ends
pub names-places : (f : Forest) (z : ℕ) → OwnsSome f → IsMember z (names f) → Lying f z
names-places Empty z owns m = absurd m
names-places (Tree a o c y) z owns m =
    by_part (member-append z (names c) (a ∷ names y) m) (names-places c z owns.1) (names-places y z owns.2)
  where
    in_younger : Lying y z → Lying (Tree a o c y) z
    in_younger l = record {
      item = l.item;
      member = member-append_right l.item (map (below a) (places c)) (map (lies_at (a ∷ [])) o ++ places y)
          (member-append_right l.item (map (lies_at (a ∷ [])) o) (places y) l.member);
      ends = l.ends;
    }

    in_children : Lying c z → Lying (Tree a o c y) z
    in_children l = record {
      item = below a l.item;
      member = member-append_left (below a l.item) (map (below a) (places c)) (map (lies_at (a ∷ [])) o ++ places y)
          (member-map (below a) l.item (places c) l.member);
      ends = ends-cons z a l.item.stack l.ends;
    }

    here : z ≡ a → (q : ℕ) × IsMember q o → Lying (Tree a o c y) z
    here e q = record {
      item = lies_at (a ∷ []) q.0;
      member = member-append_right (lies_at (a ∷ []) q.0) (map (below a) (places c))
          (map (lies_at (a ∷ [])) o ++ places y)
          (member-append_left (lies_at (a ∷ []) q.0) (map (lies_at (a ∷ [])) o) (places y)
          (member-map (lies_at (a ∷ [])) q.0 o q.1));
      ends = eq-eqb a z (sym e);
    }

    behind : (z ≡ a) ⊎ IsMember z (names y) → (IsMember z (names y) → Lying y z) → Lying (Tree a o c y) z
    behind (inl e) rest = here e (first_of o owns.0)
    behind (inr i) rest = in_younger (rest i)

    by_part : IsMember z (names c) ⊎ ((z ≡ a) ⊎ IsMember z (names y))
        → (IsMember z (names c) → Lying c z)
        → (IsMember z (names y) → Lying y z)
        → Lying (Tree a o c y) z
    by_part (inl i) children rest = in_children (children i)
    by_part (inr i) children rest = behind i rest

-- ---- ages

-- each age is at least the bound from which ages rise
pub ages-names : (x : ℕ) (f : Forest) (z : ℕ) → AgesRise x f → IsMember z (names f) → x ≤ z
ages-names x Empty z rise m = absurd m
ages-names x (Tree a o c y) z rise m =
    by_part (member-append z (names c) (a ∷ names y) m) (ages-names (a + 1) c z rise.1) (ages-names (a + 1) y z rise.2)
  where
    by_part : IsMember z (names c) ⊎ ((z ≡ a) ⊎ IsMember z (names y))
        → (IsMember z (names c) → a + 1 ≤ z)
        → (IsMember z (names y) → a + 1 ≤ z)
        → x ≤ z
    by_part (inl i) children rest = let high = children i in let low = rise.0 in omega arith
    by_part (inr (inl e)) children rest = let low = rise.0 in omega arith
    by_part (inr (inr i)) children rest = let high = rest i in let low = rise.0 in omega arith

-- stacks ascend
pub places-ascend : (x : ℕ) (f : Forest) (v : Item ℕ) → AgesRise x f → IsMember v (places f) → IsAscending v.stack
places-ascend x Empty v rise m = absurd m
places-ascend x (Tree a o c y) v rise m =
    by_part (places-cases a o c y v m) (λ w. places-ascend (a + 1) c w rise.1) (places-ascend (a + 1) y v rise.2)
  where
    below_rest : (u : Under a c v)
        → (u.rest ≡ []) ⊎ ((w : Item ℕ) × IsMember w (places c) × (u.rest ≡ w.stack))
        → (z : ℕ)
        → IsMember z u.rest
        → a < z
    below_rest u (inl e) z i = absurd (subst (λ s. IsMember z s) e i)
    below_rest u (inr g) z i = let high =
        ages-names (a + 1) c z rise.1 (places-names c g.0 z g.1 (subst (λ s. IsMember z s) g.2 i)) in omega arith

    rest_up : (u : Under a c v)
        → (u.rest ≡ []) ⊎ ((w : Item ℕ) × IsMember w (places c) × (u.rest ≡ w.stack))
        → ((w : Item ℕ) → IsMember w (places c) → IsAscending w.stack)
        → IsAscending u.rest
    rest_up u (inl e) rec = subst IsAscending (sym e) tt
    rest_up u (inr g) rec = subst IsAscending (sym g.2) (rec g.0 g.1)

    by_part : Under a c v ⊎ IsMember v (places y)
        → ((w : Item ℕ) → IsMember w (places c) → IsAscending w.stack)
        → (IsMember v (places y) → IsAscending v.stack)
        → IsAscending v.stack
    by_part (inl u) rec rest = subst IsAscending (sym u.stack_is) (below_rest u u.goes_on, rest_up u u.goes_on rec)
    by_part (inr my) rec rest = rest my

-- ---- stacks that share a name

-- two stacks that share a name agree up to it
pub places-agree : (f : Forest)
    → IsApart (names f)
    → (v w : Item ℕ) (z : ℕ)
    → IsMember v (places f)
    → IsMember w (places f)
    → IsMember z v.stack
    → IsMember z w.stack
    → up_to z v.stack ≡ up_to z w.stack
places-agree Empty apart v w z mv mw nv nw = absurd mv
places-agree (Tree a o c y) apart v w z mv mw nv nw =
    by_part (places-cases a o c y v mv) (places-cases a o c y w mw)
    (places-agree c (apart-left (names c) (a ∷ names y) apart))
    (places-agree y (apart-right (names c) (a ∷ names y) apart).1)
  where
    -- a name under the vertex a that is not its own stands in a stack of its children
    goes : (t : Item ℕ) (u : Under a c t)
        → (a ≡ z → ⊥)
        → IsMember z t.stack
        → (s : Item ℕ) × IsMember s (places c) × (t.stack ≡ a ∷ s.stack) × IsMember z s.stack
    goes t u ne n = by_rest u.goes_on (subst (λ s. IsMember z s) u.stack_is n)
      where
        by_rest : (u.rest ≡ []) ⊎ ((s : Item ℕ) × IsMember s (places c) × (u.rest ≡ s.stack))
            → (z ≡ a) ⊎ IsMember z u.rest
            → (s : Item ℕ) × IsMember s (places c) × (t.stack ≡ a ∷ s.stack) × IsMember z s.stack
        by_rest g (inl e) = absurd (ne (sym e))
        by_rest (inl e) (inr i) = absurd (subst (λ s. IsMember z s) e i)
        by_rest (inr g) (inr i) = (g.0, g.1, u.stack_is ∙ ap (λ s. a ∷ s) g.2, subst (λ s. IsMember z s) g.2 i)

    at_vertex : (t : Item ℕ) → Under a c t → a ≡ z → up_to z t.stack ≡ a ∷ []
    at_vertex t u e = ap (up_to z) u.stack_is ∙ through-stops (λ x. eqb x z) a u.rest (eq-eqb a z e)

    both : (uv : Under a c v) (uw : Under a c w)
        → (a ≡ z) ⊎ (a ≡ z → ⊥)
        → ((s t : Item ℕ) (x : ℕ) → IsMember s (places c) → IsMember t (places c) → IsMember x s.stack
        → IsMember x t.stack → up_to x s.stack ≡ up_to x t.stack)
        → up_to z v.stack ≡ up_to z w.stack
    both uv uw (inl e) rec = at_vertex v uv e ∙ sym (at_vertex w uw e)
    both uv uw (inr ne) rec =
        let gv = goes v uv ne nv in
        let gw = goes w uw ne nw in
        ap (up_to z) gv.2
        ∙ through-goes (λ x. eqb x z) a gv.0.stack (ne_eqb a z ne)
        ∙ ap (λ s. a ∷ s) (rec gv.0 gw.0 z gv.1 gw.1 gv.3 gw.3)
        ∙ sym (through-goes (λ x. eqb x z) a gw.0.stack (ne_eqb a z ne))
        ∙ ap (up_to z) (sym gw.2)

    -- a name of a stack under the vertex a is no name of its younger siblings
    not_younger : (t : Item ℕ) → Under a c t → IsMember z t.stack → IsMember z (names y) → ⊥
    not_younger t u n i = by_name (cases_eq a z)
      where
        by_name : (a ≡ z) ⊎ (a ≡ z → ⊥) → ⊥
        by_name (inl e) = (apart-right (names c) (a ∷ names y) apart).0 (subst (λ x. IsMember x (names y)) (sym e) i)
        by_name (inr ne) = let g = goes t u ne n in
            apart-both (names c) (a ∷ names y) apart z (places-names c g.0 z g.1 g.3) (inr i)

    by_part : Under a c v ⊎ IsMember v (places y)
        → Under a c w ⊎ IsMember w (places y)
        → ((s t : Item ℕ) (x : ℕ) → IsMember s (places c) → IsMember t (places c) → IsMember x s.stack
        → IsMember x t.stack → up_to x s.stack ≡ up_to x t.stack)
        → ((s t : Item ℕ) (x : ℕ) → IsMember s (places y) → IsMember t (places y) → IsMember x s.stack
        → IsMember x t.stack → up_to x s.stack ≡ up_to x t.stack)
        → up_to z v.stack ≡ up_to z w.stack
    by_part (inl uv) (inl uw) rec rest = both uv uw (cases_eq a z) rec
    by_part (inl uv) (inr yw) rec rest = absurd (not_younger v uv nv (places-names y w z yw nw))
    by_part (inr yv) (inl uw) rec rest = absurd (not_younger w uw nw (places-names y v z yv nv))
    by_part (inr yv) (inr yw) rec rest = rest v w z yv yw nv nw
