-- Members of sets of items.
--
--   AreNow xs                                   == none of these items is put off
--   alone                                       == what is in a set of one item is that item
--   put-member, member-put, put-keeps           == what a set with x has
--   put_all-member, put_all-keeps, put_all-has  == what a set with all of ys has
--   without-member, without-keeps               == what a set without x has
--   next_items-member, next_items-has           == what is asked of the next place
--   load xs                                     == the symbols of the items that are to be decomposed
--   put_all-load, without-load                  == how the load changes
use Rattle.std.proofs.Common.{ℕ, ◌≡◌, ◌+◌, ◌<◌, ◌≤◌, ◌⊎◌, inl, inr, arith, true, false, cond, Bool, not, List, [], ◌∷◌, eqb, eq-eqb, ltb, refl, sym, ap, subst, ◌∙◌, filter}
use Rattle.std.proofs.lemmas.Bool.{cases_Bool, cond-true, cond-false, eqb-true, eqb-false, ltb-true, ltb-false}
use Rattle.ml_lists.specs.Member.{IsMember}
use Rattle.ml_lists.proofs.Member.{member-filter, member-filter_from}
use Rattle.ml_ctl.specs.Formula.{occurrences}
use Rattle.ml_blocks.specs.Items.{Item}
use Rattle.ml_blocks.specs.ItemSets.{key, put, put_all, without, next_items, next_of}
use Rattle.ml_blocks.specs.Places.{is_open}

abbrev pub AreNow : List Item → Type 0
AreNow xs = (x : Item) → IsMember x xs → x.later ≡ false

pub alone : (x y : Item) → IsMember x (y ∷ []) → x ≡ y
alone x y (inl e) = e
alone x y (inr none) = absurd none

-- the three forms of the set with x
module _ (x y : Item) (ys : List Item) where
  below : ltb (key x) (key y) ≡ true → put x (y ∷ ys) ≡ x ∷ (y ∷ ys)
  below t = cond-true (ltb (key x) (key y)) (x ∷ (y ∷ ys)) (cond (eqb (key x) (key y)) (y ∷ ys) (y ∷ put x ys)) t

  same : ltb (key x) (key y) ≡ false → eqb (key x) (key y) ≡ true → put x (y ∷ ys) ≡ y ∷ ys
  same f t =
      cond-false (ltb (key x) (key y)) (x ∷ (y ∷ ys)) (cond (eqb (key x) (key y)) (y ∷ ys) (y ∷ put x ys)) f
      ∙ cond-true (eqb (key x) (key y)) (y ∷ ys) (y ∷ put x ys) t

  beyond : ltb (key x) (key y) ≡ false → eqb (key x) (key y) ≡ false → put x (y ∷ ys) ≡ y ∷ put x ys
  beyond f g =
      cond-false (ltb (key x) (key y)) (x ∷ (y ∷ ys)) (cond (eqb (key x) (key y)) (y ∷ ys) (y ∷ put x ys)) f
      ∙ cond-false (eqb (key x) (key y)) (y ∷ ys) (y ∷ put x ys) g

  -- what holds in each of the three forms
  pub by_order : (P : List Item → Type 0)
      → (key x < key y → P (x ∷ (y ∷ ys)))
      → (key x ≡ key y → P (y ∷ ys))
      → (key y < key x → P (y ∷ put x ys))
      → P (put x (y ∷ ys))
  by_order P front here behind = by_test (cases_Bool (ltb (key x) (key y))) (cases_Bool (eqb (key x) (key y)))
    where
      by_test : (ltb (key x) (key y) ≡ true) ⊎ (ltb (key x) (key y) ≡ false)
          → (eqb (key x) (key y) ≡ true) ⊎ (eqb (key x) (key y) ≡ false)
          → P (put x (y ∷ ys))
      by_test (inl t) e = subst P (sym (below t)) (front (ltb-true (key x) (key y) t))
      by_test (inr f) (inl t) = subst P (sym (same f t)) (here (eqb-true (key x) (key y) t))
      by_test (inr f) (inr g) =
          let no_less = ltb-false (key x) (key y) f in
          let other = eqb-false (key x) (key y) g in
          subst P (sym (beyond f g)) (behind (omega (arith, no_less, other)))

  pub by_form : (P : List Item → Type 0)
      → P (x ∷ (y ∷ ys))
      → (key x ≡ key y → P (y ∷ ys))
      → P (y ∷ put x ys)
      → P (put x (y ∷ ys))
  by_form P front here behind = by_order P (λ low. front) here (λ high. behind)

pub put-member : (v x : Item) (ys : List Item) → IsMember v (put x ys) → (v ≡ x) ⊎ IsMember v ys
put-member v x [] (inl e) = inl e
put-member v x [] (inr none) = absurd none
put-member v x (y ∷ ys) m =
    by_form x y ys (λ l. IsMember v l → (v ≡ x) ⊎ IsMember v (y ∷ ys)) (λ here. here) (λ same here. inr here)
    (behind (put-member v x ys)) m
  where
    at_end : (v ≡ x) ⊎ IsMember v ys → (v ≡ x) ⊎ IsMember v (y ∷ ys)
    at_end (inl e) = inl e
    at_end (inr i) = inr (inr i)

    behind : (IsMember v (put x ys) → (v ≡ x) ⊎ IsMember v ys)
        → IsMember v (y ∷ put x ys)
        → (v ≡ x) ⊎ IsMember v (y ∷ ys)
    behind rest (inl e) = inr (inl e)
    behind rest (inr i) = at_end (rest i)

pub put-keeps : (v x : Item) (ys : List Item) → IsMember v ys → IsMember v (put x ys)
put-keeps v x [] none = absurd none
put-keeps v x (y ∷ ys) m =
    by_form x y ys (IsMember v) (inr m) (λ same. m) (behind m (put-keeps v x ys))
  where
    behind : IsMember v (y ∷ ys) → (IsMember v ys → IsMember v (put x ys)) → IsMember v (y ∷ put x ys)
    behind (inl e) rest = inl e
    behind (inr i) rest = inr (rest i)

pub put_all-member : (v : Item) (ys xs : List Item) → IsMember v (put_all ys xs) → IsMember v ys ⊎ IsMember v xs
put_all-member v [] xs m = inr m
put_all-member v (y ∷ ys) xs m = by_part (put-member v y (put_all ys xs) m) (put_all-member v ys xs)
  where
    later : IsMember v ys ⊎ IsMember v xs → IsMember v (y ∷ ys) ⊎ IsMember v xs
    later (inl i) = inl (inr i)
    later (inr i) = inr i

    by_part : (v ≡ y) ⊎ IsMember v (put_all ys xs)
        → (IsMember v (put_all ys xs) → IsMember v ys ⊎ IsMember v xs)
        → IsMember v (y ∷ ys) ⊎ IsMember v xs
    by_part (inl e) rest = inl (inl e)
    by_part (inr i) rest = later (rest i)

pub put_all-keeps : (v : Item) (ys xs : List Item) → IsMember v xs → IsMember v (put_all ys xs)
put_all-keeps v [] xs m = m
put_all-keeps v (y ∷ ys) xs m = put-keeps v y (put_all ys xs) (put_all-keeps v ys xs m)

pub without-member : (v x : Item) (xs : List Item) → IsMember v (without x xs) → IsMember v xs
without-member v x xs m = (member-filter_from (λ y. not (eqb (key y) (key x))) v xs m).0

not_equal : (b : Bool) → (b ≡ true → ⊥) → not b ≡ true
not_equal true none = absurd (none refl)
not_equal false none = refl

pub without-keeps : (v x : Item) (xs : List Item) → IsMember v xs → (key v ≡ key x → ⊥) → IsMember v (without x xs)
without-keeps v x xs m apart =
    member-filter (λ y. not (eqb (key y) (key x))) v xs m
    (not_equal (eqb (key v) (key x)) (λ t. apart (eqb-true (key v) (key x) t)))

pub next_items-member : (v : Item) (xs : List Item)
    → IsMember v (next_items xs)
    → (x : Item) × IsMember x xs × (v ≡ next_of x)
next_items-member v [] none = absurd none
next_items-member v (x ∷ xs) m = by_part (put-member v (next_of x) (next_items xs) m) (next_items-member v xs)
  where
    by_part : (v ≡ next_of x) ⊎ IsMember v (next_items xs)
        → (IsMember v (next_items xs) → (y : Item) × IsMember y xs × (v ≡ next_of y))
        → (y : Item) × IsMember y (x ∷ xs) × (v ≡ next_of y)
    by_part (inl e) rest = (x, inl refl, e)
    by_part (inr i) rest = let found = rest i in (found.0, inr found.1, found.2)

-- ---- among items that their keys tell apart

module _ (W : Item → Type 0) (one : (x y : Item) → W x → W y → key x ≡ key y → x ≡ y) where
  abbrev pub AllOf : List Item → Type 0
  AllOf xs = (v : Item) → IsMember v xs → W v

  pub member-put : (x : Item) (ys : List Item) → W x → AllOf ys → IsMember x (put x ys)
  member-put x [] w all = inl refl
  member-put x (y ∷ ys) w all =
      by_form x y ys (IsMember x) (inl refl) (λ same. inl (one x y w (all y (inl refl)) same))
      (inr (member-put x ys w (λ v m. all v (inr m))))

  pub put-all_of : (x : Item) (ys : List Item) → W x → AllOf ys → AllOf (put x ys)
  put-all_of x ys w all v m = from (put-member v x ys m)
    where
      from : (v ≡ x) ⊎ IsMember v ys → W v
      from (inl e) = subst W (sym e) w
      from (inr i) = all v i

  pub put_all-all_of : (ys xs : List Item) → AllOf ys → AllOf xs → AllOf (put_all ys xs)
  put_all-all_of [] xs all_ys all_xs = all_xs
  put_all-all_of (y ∷ ys) xs all_ys all_xs =
      put-all_of y (put_all ys xs) (all_ys y (inl refl)) (put_all-all_of ys xs (λ v m. all_ys v (inr m)) all_xs)

  pub put_all-has : (ys xs : List Item) → AllOf ys → AllOf xs → (v : Item) → IsMember v ys → IsMember v (put_all ys xs)
  put_all-has [] xs all_ys all_xs v none = absurd none
  put_all-has (y ∷ ys) xs all_ys all_xs v (inl e) =
      subst (λ w. IsMember w (put y (put_all ys xs))) (sym e)
      (member-put y (put_all ys xs) (all_ys y (inl refl)) (put_all-all_of ys xs (λ w m. all_ys w (inr m)) all_xs))
  put_all-has (y ∷ ys) xs all_ys all_xs v (inr m) =
      put-keeps v y (put_all ys xs) (put_all-has ys xs (λ w i. all_ys w (inr i)) all_xs v m)

  pub next_items-all_of : (xs : List Item) → ((x : Item) → IsMember x xs → W (next_of x)) → AllOf (next_items xs)
  next_items-all_of xs all v m = let found = next_items-member v xs m in subst W (sym found.2) (all found.0 found.1)

  pub next_items-has : (xs : List Item)
      → ((x : Item) → IsMember x xs → W (next_of x))
      → (x : Item)
      → IsMember x xs
      → IsMember (next_of x) (next_items xs)
  next_items-has [] all x none = absurd none
  next_items-has (y ∷ ys) all x (inl e) =
      subst (λ v. IsMember (next_of v) (put (next_of y) (next_items ys))) (sym e)
      (member-put (next_of y) (next_items ys) (all y (inl refl)) (next_items-all_of ys (λ v m. all v (inr m))))
  next_items-has (y ∷ ys) all x (inr m) =
      put-keeps (next_of x) (next_of y) (next_items ys) (next_items-has ys (λ v i. all v (inr i)) x m)

-- ---- the load

abbrev pub load_of : Item → ℕ
load_of x = cond (is_open x) (occurrences x.formula) 0

abbrev pub load : List Item → ℕ
load [] = 0
load (x ∷ xs) = load_of x + load xs

pub put-load : (x : Item) (ys : List Item) → load (put x ys) ≤ load_of x + load ys
put-load x [] = omega arith
put-load x (y ∷ ys) =
    by_form x y ys (λ l. load l ≤ load_of x + load (y ∷ ys)) (omega arith) (λ same. omega arith)
    (let rest = put-load x ys in omega (arith, rest))

pub put_all-load : (ys xs : List Item) → load (put_all ys xs) ≤ load ys + load xs
put_all-load [] xs = omega arith
put_all-load (y ∷ ys) xs =
    let a = put-load y (put_all ys xs) in let b = put_all-load ys xs in omega (arith, a, b)

filter-load : (t : Item → Bool) (xs : List Item) → load (filter t xs) ≤ load xs
filter-load t [] = omega arith
filter-load t (x ∷ xs) = by_test (cases_Bool (t x)) (filter-load t xs)
  where
    by_test : (t x ≡ true) ⊎ (t x ≡ false) → load (filter t xs) ≤ load xs → load (filter t (x ∷ xs)) ≤ load (x ∷ xs)
    by_test (inl e) rest =
        let is : load (filter t (x ∷ xs)) ≡ load_of x + load (filter t xs) =
        ap load (cond-true (t x) (x ∷ filter t xs) (filter t xs) e) in
        omega (arith, is, rest)
    by_test (inr e) rest =
        let is : load (filter t (x ∷ xs)) ≡ load (filter t xs) = ap load
        (cond-false (t x) (x ∷ filter t xs) (filter t xs) e) in
        omega (arith, is, rest)

abbrev apart_from : Item → Item → Bool
apart_from x y = not (eqb (key y) (key x))

pub without-load : (x : Item) (xs : List Item) → IsMember x xs → load (without x xs) + load_of x ≤ load xs
without-load x [] none = absurd none
without-load x (y ∷ ys) m = from m (cases_Bool (apart_from x y)) (without-load x ys) (filter-load (apart_from x) ys)
  where
    itself : (n : ℕ) → eqb n n ≡ true
    itself n = eq-eqb n n refl

    kept : apart_from x y ≡ true → load (without x (y ∷ ys)) ≡ load_of y + load (without x ys)
    kept t = ap load (cond-true (apart_from x y) (y ∷ without x ys) (without x ys) t)

    dropped : apart_from x y ≡ false → load (without x (y ∷ ys)) ≡ load (without x ys)
    dropped f = ap load (cond-false (apart_from x y) (y ∷ without x ys) (without x ys) f)

    same_key : x ≡ y → apart_from x y ≡ false
    same_key e = subst (λ v. apart_from x v ≡ false) e (ap not (itself (key x)))

    from : (x ≡ y) ⊎ IsMember x ys
        → (apart_from x y ≡ true) ⊎ (apart_from x y ≡ false)
        → (IsMember x ys → load (without x ys) + load_of x ≤ load ys)
        → load (without x ys) ≤ load ys
        → load (without x (y ∷ ys)) + load_of x ≤ load (y ∷ ys)
    from (inl e) test rest less =
        let is = dropped (same_key e) in let same : load_of x ≡ load_of y = ap load_of e in omega (arith, is, same, less)
    from (inr i) (inl t) rest less = let is = kept t in let r = rest i in omega (arith, is, r)
    from (inr i) (inr f) rest less = let is = dropped f in let r = rest i in omega (arith, is, r)
