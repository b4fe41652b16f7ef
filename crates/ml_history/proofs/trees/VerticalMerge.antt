-- Full vertices, and the cut on a tree.
--
--   is_full_here o qs        == whether a vertex is full, at which the states o lie, and below which qs
--   FullAt full f            == the test says of each vertex of f whether it is full
--   full_at                  == the test for full names, of the places of a tree, says so
--   settled-states           == the states of the settled tree are those of the tree
--   settled-places           == its stacks are cut
--   settled-names, settled-apart, settled-rise, settled-root, settled-some == what the settled tree keeps
--   fulls-from, fulls-has    == the names of the full vertices are those that are full
--   settled-names, fulls-names == these, and those of the settled tree, are names of the tree
use Rattle.std.proofs.Common.{ℕ, ◌≡◌, ◌≢◌, ◌+◌, ◌≤◌, ◌⊎◌, inl, inr, arith, Bool, true, false, not, ◌&&◌, ◌||◌, eqb, List, [], ◌∷◌, ◌++◌, map, refl, sym, subst, ap, ◌∙◌}
use Rattle.std.proofs.lemmas.Bool.{cases_Bool, eq-eqb, ne_eqb, or_left, and_left, and_right, not_from_true, and_from, not_from_false}
use Rattle.std.proofs.lemmas.List.{map-append}
use Rattle.std.proofs.lemmas.List.Folds.{list_any-append}
use Rattle.ml_lists.specs.Member.{IsMember}
use Rattle.ml_lists.proofs.Member.{member-map, member-append, member-append_left, member-append_right}
use Rattle.ml_trace.specs.Stack.{Item, has, ends_in}
use Rattle.ml_trace.proofs.Stacks.{ends-has, has-member}
use Rattle.ml_history.specs.private.Forest.{Forest, Empty, Tree, names, states, lies_at, below, places, AgesRise, HasOneRoot}
use Rattle.ml_lists.specs.Times.{IsApart, times}
use Rattle.ml_history.specs.HistoryStep.{stands, is_last, is_full, through}
use Rattle.ml_history.specs.private.TreeStep.{lay_full, settled, full_here, fulls}
use Rattle.ml_history.proofs.trees.ItemsByState.{state_of}
use Rattle.ml_history.proofs.definition.CutStacks.{through-stops, through-goes}
use Rattle.ml_history.proofs.trees.Forests.{places-states, places-not_empty, places-names, OwnsSome}
use Rattle.ml_history.proofs.definition.NamesInUse.{stands-from, stands-in, is_last-from, is_last-in}
use Rattle.ml_lists.proofs.Times.{times-append, times-member, member-times, apart-times, times-apart, apart-left, apart-right, apart-both}

-- whether a vertex is full, at which the states o lie, and below which the states qs
abbrev pub is_full_here : List ℕ → List ℕ → Bool
is_full_here [] [] = false
is_full_here [] (q ∷ qs) = true
is_full_here (p ∷ ps) qs = false

-- the test says of each vertex whether it is full
abbrev pub FullAt : (ℕ → Bool) → Forest → Type 0
FullAt full Empty = Unit {0}
FullAt full (Tree a o c y) = (full a ≡ is_full_here o (states c)) × FullAt full c × FullAt full y

-- so does a test that agrees on the names of the forest
full_at-same : (full other : ℕ → Bool) (f : Forest)
    → ((z : ℕ) → IsMember z (names f) → full z ≡ other z)
    → FullAt full f
    → FullAt other f
full_at-same full other Empty same at = tt
full_at-same full other (Tree a o c y) same at = (
  sym (same a (member-append_right a (names c) (a ∷ names y) (inl refl))) ∙ at.0,
  full_at-same full other c (λ z m. same z (member-append_left z (names c) (a ∷ names y) m)) at.1,
  full_at-same full other y (λ z m. same z (member-append_right z (names c) (a ∷ names y) (inr m))) at.2,
)

-- ---- names that stand, and last names

-- a name that is not of the forest stands in no stack of it
stands-not : (f : Forest) (z : ℕ) → ¬ (IsMember z (names f)) → stands (places f) z ≡ false
stands-not f z out = by_test (cases_Bool (stands (places f) z))
  where
    by_test : (stands (places f) z ≡ true) ⊎ (stands (places f) z ≡ false) → stands (places f) z ≡ false
    by_test (inl t) = let s = stands-from (places f) z t in
        absurd (out (places-names f s.item z s.member (has-member z s.item.stack s.named)))
    by_test (inr e) = e

-- and ends none
is_last-not : (f : Forest) (z : ℕ) → ¬ (IsMember z (names f)) → is_last (places f) z ≡ false
is_last-not f z out = by_test (cases_Bool (is_last (places f) z))
  where
    by_test : (is_last (places f) z ≡ true) ⊎ (is_last (places f) z ≡ false) → is_last (places f) z ≡ false
    by_test (inl t) = let s = is_last-from (places f) z t in
        absurd (out (places-names f s.item z s.member (has-member z s.item.stack (ends-has z s.item.stack s.ends))))
    by_test (inr e) = e

-- another name stands in a stack where it stands in it with a name in front
stands-below : (a z : ℕ) (ts : List (Item ℕ)) → (a ≡ z → ⊥) → stands (map (below a) ts) z ≡ stands ts z
stands-below a z [] ne = refl
stands-below a z (t ∷ ts) ne =
    ap (λ v. (v || has z t.stack) || stands (map (below a) ts) z) (ne_eqb a z ne)
    ∙ ap (λ v. has z t.stack || v) (stands-below a z ts ne)

-- and ends it
ends-below : (a z : ℕ) (s : List ℕ) → s ≢ [] → ends_in z (a ∷ s) ≡ ends_in z s
ends-below a z [] full = absurd (full refl)
ends-below a z (x ∷ xs) full = refl

is_last-below : (a z : ℕ) (ts : List (Item ℕ))
    → ((t : Item ℕ) → IsMember t ts → t.stack ≢ [])
    → is_last (map (below a) ts) z ≡ is_last ts z
is_last-below a z [] full = refl
is_last-below a z (t ∷ ts) full =
    ap (λ v. v || is_last (map (below a) ts) z) (ends-below a z t.stack (full t (inl refl)))
    ∙ ap (λ v. ends_in z t.stack || v) (is_last-below a z ts (λ u m. full u (inr m)))

-- the stacks of the states at a vertex have no other name
stands-lies : (a z : ℕ) (qs : List ℕ) → (a ≡ z → ⊥) → stands (map (lies_at (a ∷ [])) qs) z ≡ false
stands-lies a z [] ne = refl
stands-lies a z (q ∷ qs) ne = ap (λ v. (v || false) || stands (map (lies_at (a ∷ [])) qs) z) (ne_eqb a z ne)
    ∙ stands-lies a z qs ne

is_last-lies : (a z : ℕ) (qs : List ℕ) → (a ≡ z → ⊥) → is_last (map (lies_at (a ∷ [])) qs) z ≡ false
is_last-lies a z [] ne = refl
is_last-lies a z (q ∷ qs) ne = ap (λ v. v || is_last (map (lies_at (a ∷ [])) qs) z) (ne_eqb a z ne)
    ∙ is_last-lies a z qs ne

or-false : (b : Bool) → (b || false) ≡ b
or-false true = refl
or-false false = refl

-- no place where no state lies
pub places-none : (f : Forest) → states f ≡ [] → places f ≡ []
places-none f e = none (places f) (places-states f ∙ e)
  where
    none : (ts : List (Item ℕ)) → map state_of ts ≡ [] → ts ≡ []
    none [] e = refl
    none (t ∷ ts) e = cc

-- some place where some state lies
places-some : (f : Forest) (q : ℕ) (qs : List ℕ) → states f ≡ q ∷ qs → (t : Item ℕ) × IsMember t (places f)
places-some f q qs e = some (places f) (places-states f ∙ e)
  where
    some : (ts : List (Item ℕ)) → map state_of ts ≡ q ∷ qs → (t : Item ℕ) × IsMember t ts
    some [] e = absurd (cc)
    some (t ∷ ts) e = (t, inl refl)

-- ---- the test for full names

module _ (a : ℕ) (o : List ℕ) (c y : Forest) (apart : IsApart (names (Tree a o c y))) where
  a_not_below : ¬ (IsMember a (names c))
  a_not_below m = apart-both (names c) (a ∷ names y) apart a m (inl refl)

  a_not_beside : ¬ (IsMember a (names y))
  a_not_beside = (apart-right (names c) (a ∷ names y) apart).0

  -- a test of some item, of the three parts of a tree
  stands-tree : (z : ℕ)
      → stands (places (Tree a o c y)) z ≡ (stands (map (below a) (places c)) z
      || (stands (map (lies_at (a ∷ [])) o) z || stands (places y) z))
  stands-tree z =
      list_any-append (λ (t : Item ℕ). has z t.stack) (map (below a) (places c)) (map (lies_at (a ∷ [])) o ++ places y)
      ∙ ap (λ v. stands (map (below a) (places c)) z || v)
      (list_any-append (λ (t : Item ℕ). has z t.stack) (map (lies_at (a ∷ [])) o) (places y))

  is_last-tree : (z : ℕ)
      → is_last (places (Tree a o c y)) z ≡ (is_last (map (below a) (places c)) z
      || (is_last (map (lies_at (a ∷ [])) o) z || is_last (places y) z))
  is_last-tree z =
      list_any-append (λ (t : Item ℕ). ends_in z t.stack) (map (below a) (places c))
      (map (lies_at (a ∷ [])) o ++ places y)
      ∙ ap (λ v. is_last (map (below a) (places c)) z || v)
      (list_any-append (λ (t : Item ℕ). ends_in z t.stack) (map (lies_at (a ∷ [])) o) (places y))

  -- a name of the children is full there where it is full in the tree
  full-below : (z : ℕ) → IsMember z (names c) → is_full (places c) z ≡ is_full (places (Tree a o c y)) z
  full-below z m =
      let ne : a ≡ z → ⊥ = λ e. a_not_below (subst (λ v. IsMember v (names c)) (sym e) m) in
      let beside : ¬ (IsMember z (names y)) = λ i. apart-both (names c) (a ∷ names y) apart z m (inr i) in
      let standing : stands (places (Tree a o c y)) z ≡ stands (places c) z =
      stands-tree z
      ∙ ap (λ v. v || (stands (map (lies_at (a ∷ [])) o) z || stands (places y) z)) (stands-below a z (places c) ne)
      ∙ ap (λ v. stands (places c) z || (v || stands (places y) z)) (stands-lies a z o ne)
      ∙ ap (λ v. stands (places c) z || v) (stands-not y z beside)
      ∙ or-false (stands (places c) z)
      in
      let last : is_last (places (Tree a o c y)) z ≡ is_last (places c) z =
      is_last-tree z
      ∙ ap (λ v. v || (is_last (map (lies_at (a ∷ [])) o) z || is_last (places y) z))
      (is_last-below a z (places c) (places-not_empty c))
      ∙ ap (λ v. is_last (places c) z || (v || is_last (places y) z)) (is_last-lies a z o ne)
      ∙ ap (λ v. is_last (places c) z || v) (is_last-not y z beside)
      ∙ or-false (is_last (places c) z)
      in
      λ i. sym standing i && not (sym last i)

  -- so is a name of the younger siblings
  full-beside : (z : ℕ) → IsMember z (names y) → is_full (places y) z ≡ is_full (places (Tree a o c y)) z
  full-beside z m =
      let ne : a ≡ z → ⊥ = λ e. a_not_beside (subst (λ v. IsMember v (names y)) (sym e) m) in
      let inside : ¬ (IsMember z (names c)) = λ i. apart-both (names c) (a ∷ names y) apart z i (inr m) in
      let standing : stands (places (Tree a o c y)) z ≡ stands (places y) z =
      stands-tree z
      ∙ ap (λ v. v || (stands (map (lies_at (a ∷ [])) o) z || stands (places y) z))
      (stands-below a z (places c) ne ∙ stands-not c z inside)
      ∙ ap (λ v. v || stands (places y) z) (stands-lies a z o ne)
      in
      let last : is_last (places (Tree a o c y)) z ≡ is_last (places y) z =
      is_last-tree z
      ∙ ap (λ v. v || (is_last (map (lies_at (a ∷ [])) o) z || is_last (places y) z))
      (is_last-below a z (places c) (places-not_empty c) ∙ is_last-not c z inside)
      ∙ ap (λ v. v || is_last (places y) z) (is_last-lies a z o ne)
      in
      λ i. sym standing i && not (sym last i)

-- the name of the vertex itself
full-own : (a : ℕ) (o : List ℕ) (c y : Forest) (apart : IsApart (names (Tree a o c y))) (qs : List ℕ)
    → states c ≡ qs
    → is_full (places (Tree a o c y)) a ≡ is_full_here o qs
full-own a (p ∷ ps) c y apart qs e =
    let own : Item ℕ = lies_at (a ∷ []) p in
    let inside : IsMember own (places (Tree a (p ∷ ps) c y)) =
    member-append_right own (map (below a) (places c)) (map (lies_at (a ∷ [])) (p ∷ ps) ++ places y)
    (member-append_left own (map (lies_at (a ∷ [])) (p ∷ ps)) (places y) (inl refl))
    in
    let last = is_last-in (places (Tree a (p ∷ ps) c y)) a own inside (eq-eqb a a refl) in
    and_right (stands (places (Tree a (p ∷ ps) c y)) a) (not (is_last (places (Tree a (p ∷ ps) c y)) a))
    (not_from_true (is_last (places (Tree a (p ∷ ps) c y)) a) last)
full-own a [] c y apart [] e =
    let none : stands (places (Tree a [] c y)) a ≡ false =
    stands-tree a [] c y apart a
    ∙ ap (λ v. stands (map (below a) v) a || stands (places y) a) (places-none c e)
    ∙ stands-not y a (a_not_beside a [] c y apart)
    in
    and_left (stands (places (Tree a [] c y)) a) (not (is_last (places (Tree a [] c y)) a)) none
full-own a [] c y apart (q ∷ qs) e =
    let some = places-some c q qs e in
    let inside : IsMember (below a some.0) (places (Tree a [] c y)) =
    member-append_left (below a some.0) (map (below a) (places c)) (places y)
    (member-map (below a) some.0 (places c) some.1) in
    let standing = stands-in (places (Tree a [] c y)) a (below a some.0) inside
    (or_left (eqb a a) (has a some.0.stack) (eq-eqb a a refl)) in
    let last : is_last (places (Tree a [] c y)) a ≡ false =
    is_last-tree a [] c y apart a
    ∙ ap (λ v. v || is_last (places y) a) (is_last-below a a (places c) (places-not_empty c)
    ∙ is_last-not c a (a_not_below a [] c y apart))
    ∙ is_last-not y a (a_not_beside a [] c y apart)
    in
    and_from (stands (places (Tree a [] c y)) a) (not (is_last (places (Tree a [] c y)) a)) standing
    (not_from_false (is_last (places (Tree a [] c y)) a) last)

-- the test for full names, of the places of a tree, says of each vertex whether it is full
pub full_at : (f : Forest) → IsApart (names f) → FullAt (is_full (places f)) f
full_at Empty apart = tt
full_at (Tree a o c y) apart = (
  full-own a o c y apart (states c) refl,
  full_at-same (is_full (places c)) (is_full (places (Tree a o c y))) c (full-below a o c y apart)
      (full_at c (apart-left (names c) (a ∷ names y) apart)),
  full_at-same (is_full (places y)) (is_full (places (Tree a o c y))) y (full-beside a o c y apart)
      (full_at y (apart-right (names c) (a ∷ names y) apart).1),
)

-- ---- the settled tree

lay_full-states : (a : ℕ) (qs : List ℕ) (y : Forest) → states (lay_full a qs y) ≡ qs ++ states y
lay_full-states a [] y = refl
lay_full-states a (q ∷ qs) y = refl

lay_full-places : (a : ℕ) (qs : List ℕ) (y : Forest) → places (lay_full a qs y) ≡ map (lies_at (a ∷ [])) qs ++ places y
lay_full-places a [] y = refl
lay_full-places a (q ∷ qs) y = refl

-- the states of the settled tree are those of the tree
pub settled-states : (f : Forest) → states (settled f) ≡ states f
settled-states Empty = refl
settled-states (Tree a [] c y) = lay_full-states a (states (settled c)) (settled y)
    ∙ (λ i. settled-states c i ++ settled-states y i)
settled-states (Tree a (p ∷ ps) c y) = λ i. settled-states c i ++ ((p ∷ ps) ++ settled-states y i)

-- an item with its stack cut
abbrev pub cut_at : (ℕ → Bool) → Item ℕ → Item ℕ
cut_at full t = record { state = t.state; stack = through full t.stack }

-- a stack under a vertex that is not full is cut further down
cut-goes : (full : ℕ → Bool) (a : ℕ) (ts : List (Item ℕ))
    → full a ≡ false
    → map (cut_at full) (map (below a) ts) ≡ map (below a) (map (cut_at full) ts)
cut-goes full a [] f = refl
cut-goes full a (t ∷ ts) f = λ i.
    record { state = t.state; stack = through-goes full a t.stack f i } ∷ cut-goes full a ts f i

-- one under a full vertex there
cut-stops : (full : ℕ → Bool) (a : ℕ) (ts : List (Item ℕ))
    → full a ≡ true
    → map (cut_at full) (map (below a) ts) ≡ map (lies_at (a ∷ [])) (map state_of ts)
cut-stops full a [] f = refl
cut-stops full a (t ∷ ts) f = λ i.
    record { state = t.state; stack = through-stops full a t.stack f i } ∷ cut-stops full a ts f i

-- one of a state that lies at a vertex is left as it is
through-one : (full : ℕ → Bool) (a : ℕ) → through full (a ∷ []) ≡ a ∷ []
through-one full a = by_test (cases_Bool (full a))
  where
    by_test : (full a ≡ true) ⊎ (full a ≡ false) → through full (a ∷ []) ≡ a ∷ []
    by_test (inl t) = through-stops full a [] t
    by_test (inr f) = through-goes full a [] f

cut-lies : (full : ℕ → Bool) (a : ℕ) (qs : List ℕ)
    → map (cut_at full) (map (lies_at (a ∷ [])) qs) ≡ map (lies_at (a ∷ [])) qs
cut-lies full a [] = refl
cut-lies full a (q ∷ qs) = λ i. record { state = q; stack = through-one full a i } ∷ cut-lies full a qs i

-- of all that lies below a vertex at which no state lies
cut-below : (full : ℕ → Bool) (a : ℕ) (c : Forest) (qs : List ℕ)
    → states c ≡ qs
    → full a ≡ is_full_here [] qs
    → map (cut_at full) (map (below a) (places c)) ≡ map (lies_at (a ∷ [])) (states c)
cut-below full a c [] e at = ap (λ v. map (cut_at full) (map (below a) v)) (places-none c e)
    ∙ ap (map (lies_at (a ∷ []))) (sym e)
cut-below full a c (q ∷ qs) e at = cut-stops full a (places c) at ∙ ap (map (lies_at (a ∷ []))) (places-states c)

-- the stacks of the settled tree are those of the tree, cut
pub settled-places : (full : ℕ → Bool) (f : Forest) → FullAt full f → places (settled f) ≡ map (cut_at full) (places f)
settled-places full Empty at = refl
settled-places full (Tree a [] c y) at =
    lay_full-places a (states (settled c)) (settled y)
    ∙ ap (λ v. map (lies_at (a ∷ [])) v ++ places (settled y)) (settled-states c)
    ∙ ap (λ v. v ++ places (settled y)) (sym (cut-below full a c (states c) refl at.0))
    ∙ ap (λ v. map (cut_at full) (map (below a) (places c)) ++ v) (settled-places full y at.2)
    ∙ sym (map-append (cut_at full) (map (below a) (places c)) (places y))
settled-places full (Tree a (p ∷ ps) c y) at =
    ap (λ v. map (below a) v ++ (map (lies_at (a ∷ [])) (p ∷ ps) ++ places (settled y))) (settled-places full c at.1)
    ∙ ap (λ v. v ++ (map (lies_at (a ∷ [])) (p ∷ ps) ++ places (settled y))) (sym (cut-goes full a (places c) at.0))
    ∙ ap (λ v. map (cut_at full) (map (below a) (places c)) ++ (v ++ places (settled y)))
    (sym (cut-lies full a (p ∷ ps)))
    ∙ ap (λ v. map (cut_at full) (map (below a) (places c)) ++ (map (cut_at full)
    (map (lies_at (a ∷ [])) (p ∷ ps)) ++ v)) (settled-places full y at.2)
    ∙ ap (λ v. map (cut_at full) (map (below a) (places c)) ++ v)
    (sym (map-append (cut_at full) (map (lies_at (a ∷ [])) (p ∷ ps)) (places y)))
    ∙ sym (map-append (cut_at full) (map (below a) (places c)) (map (lies_at (a ∷ [])) (p ∷ ps) ++ places y))

-- no name stands in the settled tree more often than in the tree
settled-times : (f : Forest) (z : ℕ) → times z (names (settled f)) ≤ times z (names f)
settled-times Empty z = omega arith
settled-times (Tree a [] c y) z = by_states (states (settled c)) (settled-times y z)
  where
    by_states : (qs : List ℕ)
        → times z (names (settled y)) ≤ times z (names y)
        → times z (names (lay_full a qs (settled y))) ≤ times z (names (Tree a [] c y))
    by_states [] rest = let whole = times-append z (names c) (a ∷ names y) in omega arith
    by_states (q ∷ qs) rest = let whole = times-append z (names c) (a ∷ names y) in omega arith
settled-times (Tree a (p ∷ ps) c y) z =
    let whole = times-append z (names c) (a ∷ names y) in
    let part = times-append z (names (settled c)) (a ∷ names (settled y)) in
    let children = settled-times c z in
    let rest = settled-times y z in
    omega arith

pub settled-apart : (f : Forest) → IsApart (names f) → IsApart (names (settled f))
settled-apart f apart = times-apart (names (settled f))
    (λ z. let le = settled-times f z in let one = apart-times z (names f) apart in omega arith)

-- ages that rise from a number rise from a lower one
rise-le : (x w : ℕ) (f : Forest) → w ≤ x → AgesRise x f → AgesRise w f
rise-le x w Empty le rise = tt
rise-le x w (Tree a o c y) le rise = ((let low = rise.0 in omega arith), rise.1, rise.2)

pub settled-rise : (x : ℕ) (f : Forest) → AgesRise x f → AgesRise x (settled f)
settled-rise x Empty rise = tt
settled-rise x (Tree a [] c y) rise = by_states (states (settled c)) (settled-rise (a + 1) y rise.2)
  where
    by_states : (qs : List ℕ) → AgesRise (a + 1) (settled y) → AgesRise x (lay_full a qs (settled y))
    by_states [] rest = rise-le (a + 1) x (settled y) (let low = rise.0 in omega arith) rest
    by_states (q ∷ qs) rest = (rise.0, tt, rest)
settled-rise x (Tree a (p ∷ ps) c y) rise = (rise.0, settled-rise (a + 1) c rise.1, settled-rise (a + 1) y rise.2)

pub settled-root : (f : Forest) → HasOneRoot f → HasOneRoot (settled f)
settled-root Empty one = tt
settled-root (Tree a [] c y) one = by_states (states (settled c)) (ap settled one)
  where
    by_states : (qs : List ℕ) → settled y ≡ Empty → HasOneRoot (lay_full a qs (settled y))
    by_states [] e = subst HasOneRoot (sym e) tt
    by_states (q ∷ qs) e = e
settled-root (Tree a (p ∷ ps) c y) one = ap settled one

-- at each of its vertices lies some state
pub settled-some : (f : Forest) → OwnsSome (settled f)
settled-some Empty = tt
settled-some (Tree a [] c y) = by_states (states (settled c)) (settled-some y)
  where
    by_states : (qs : List ℕ) → OwnsSome (settled y) → OwnsSome (lay_full a qs (settled y))
    by_states [] rest = rest
    by_states (q ∷ qs) rest = ((λ e. cc), tt, rest)
settled-some (Tree a (p ∷ ps) c y) = ((λ e. cc), settled-some c, settled-some y)

-- ---- the names of the full vertices

-- the names of full vertices are names, and full
pub fulls-from : (full : ℕ → Bool) (f : Forest) (z : ℕ) → FullAt full f → IsMember z (fulls f) → full z ≡ true
fulls-from full Empty z at m = absurd m
fulls-from full (Tree a o c y) z at m =
    by_part (member-append z (fulls c) (full_here a o (states c) ++ fulls y) m) (fulls-from full c z at.1)
    (fulls-from full y z at.2)
  where
    here : (own qs : List ℕ) → full a ≡ is_full_here own qs → IsMember z (full_here a own qs) → full z ≡ true
    here [] [] e i = absurd i
    here [] (q ∷ qs) e (inl same) = ap full same ∙ e
    here [] (q ∷ qs) e (inr none) = absurd none
    here (p ∷ ps) qs e i = absurd i

    behind : IsMember z (full_here a o (states c)) ⊎ IsMember z (fulls y)
        → (IsMember z (fulls y) → full z ≡ true)
        → full z ≡ true
    behind (inl i) rest = here o (states c) at.0 i
    behind (inr i) rest = rest i

    by_part : IsMember z (fulls c) ⊎ IsMember z (full_here a o (states c) ++ fulls y)
        → (IsMember z (fulls c) → full z ≡ true)
        → (IsMember z (fulls y) → full z ≡ true)
        → full z ≡ true
    by_part (inl i) children rest = children i
    by_part (inr i) children rest = behind (member-append z (full_here a o (states c)) (fulls y) i) rest

-- and a name that is full is one of them
pub fulls-has : (full : ℕ → Bool) (f : Forest) (z : ℕ)
    → FullAt full f
    → IsMember z (names f)
    → full z ≡ true
    → IsMember z (fulls f)
fulls-has full Empty z at m passes = absurd m
fulls-has full (Tree a o c y) z at m passes =
    by_part (member-append z (names c) (a ∷ names y) m) (λ i. fulls-has full c z at.1 i passes)
    (λ i. fulls-has full y z at.2 i passes)
  where
    here : (own qs : List ℕ) → full a ≡ is_full_here own qs → z ≡ a → IsMember z (full_here a own qs)
    here [] [] e same = let wrong : full z ≡ false = ap full same ∙ e in absurd (cc)
    here [] (q ∷ qs) e same = inl same
    here (p ∷ ps) qs e same = let wrong : full z ≡ false = ap full same ∙ e in absurd (cc)

    by_part : IsMember z (names c) ⊎ ((z ≡ a) ⊎ IsMember z (names y))
        → (IsMember z (names c) → IsMember z (fulls c))
        → (IsMember z (names y) → IsMember z (fulls y))
        → IsMember z (fulls (Tree a o c y))
    by_part (inl i) children rest = member-append_left z (fulls c) (full_here a o (states c) ++ fulls y) (children i)
    by_part (inr (inl same)) children rest =
        member-append_right z (fulls c) (full_here a o (states c) ++ fulls y)
        (member-append_left z (full_here a o (states c)) (fulls y) (here o (states c) at.0 same))
    by_part (inr (inr i)) children rest =
        member-append_right z (fulls c) (full_here a o (states c) ++ fulls y)
        (member-append_right z (full_here a o (states c)) (fulls y) (rest i))

-- ---- names of full vertices and of the settled tree

-- the names of the settled tree are names of the tree
pub settled-names : (f : Forest) (z : ℕ) → IsMember z (names (settled f)) → IsMember z (names f)
settled-names f z m = member-times z (names f)
    (let le = settled-times f z in let one = times-member z (names (settled f)) m in omega arith)

-- so are those of full vertices
pub fulls-names : (f : Forest) (z : ℕ) → IsMember z (fulls f) → IsMember z (names f)
fulls-names Empty z m = absurd m
fulls-names (Tree a o c y) z m =
    by_part (member-append z (fulls c) (full_here a o (states c) ++ fulls y) m) (fulls-names c z) (fulls-names y z)
  where
    here : (own qs : List ℕ) → IsMember z (full_here a own qs) → z ≡ a
    here [] [] i = absurd i
    here [] (q ∷ qs) (inl same) = same
    here [] (q ∷ qs) (inr none) = absurd none
    here (p ∷ ps) qs i = absurd i

    behind : IsMember z (full_here a o (states c)) ⊎ IsMember z (fulls y)
        → (IsMember z (fulls y) → IsMember z (names y))
        → IsMember z (names (Tree a o c y))
    behind (inl i) rest = member-append_right z (names c) (a ∷ names y) (inl (here o (states c) i))
    behind (inr i) rest = member-append_right z (names c) (a ∷ names y) (inr (rest i))

    by_part : IsMember z (fulls c) ⊎ IsMember z (full_here a o (states c) ++ fulls y)
        → (IsMember z (fulls c) → IsMember z (names c))
        → (IsMember z (fulls y) → IsMember z (names y))
        → IsMember z (names (Tree a o c y))
    by_part (inl i) children rest = member-append_left z (names c) (a ∷ names y) (children i)
    by_part (inr i) children rest = behind (member-append z (full_here a o (states c)) (fulls y) i) rest
