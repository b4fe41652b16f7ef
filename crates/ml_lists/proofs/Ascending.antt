-- Ascending lists of numbers, as finite sets.
--
--   member-insert_once, insert_once-member == the set with x has x, and what it had, and nothing else
--   member-ascending, ascending-member     == the ascending list has the members of the list
--   ascending-is                           == it is ascending
--   ascending_same                         == two ascending lists with the same members are one
--   ascending-apart                        == an earlier entry of an ascending list is below a later one
--   ascending-append, ascending-filter     == a list with a greater entry at its end ascends, and a part of one
--   length-insert_once, length-ascending   == an ascending list is no longer than the list
--   ascending-one, ascending-cons          == a list of one entry ascends, and one with a lower entry put in front
use Rattle.std.proofs.Common.{ℕ, ◌≡◌, ◌+◌, ◌<◌, ◌≤◌, ◌⊎◌, inl, inr, arith, Bool, true, false, cond, filter, List, [], ◌∷◌, ◌++◌, eqb, ltb, refl, sym, subst, ◌∙◌, zero, suc, length, get_or}
use Rattle.std.proofs.lemmas.Bool.{cases_Bool, cond-true, cond-false, ltb-true, ltb-false, eqb-true, eqb-false}
use Rattle.ml_lists.specs.Member.{IsMember}
use Rattle.ml_lists.proofs.Member.{member-append, member-filter_from, place-member}
use Rattle.ml_lists.specs.Ascending.{IsAscending, insert_once, ascending}

-- the three forms of the set with x
module _ (x y : ℕ) (ys : List ℕ) where
  below : ltb x y ≡ true → insert_once x (y ∷ ys) ≡ x ∷ (y ∷ ys)
  below t = cond-true (ltb x y) (x ∷ (y ∷ ys)) (cond (eqb x y) (y ∷ ys) (y ∷ insert_once x ys)) t

  same : ltb x y ≡ false → eqb x y ≡ true → insert_once x (y ∷ ys) ≡ y ∷ ys
  same f t =
      cond-false (ltb x y) (x ∷ (y ∷ ys)) (cond (eqb x y) (y ∷ ys) (y ∷ insert_once x ys)) f
      ∙ cond-true (eqb x y) (y ∷ ys) (y ∷ insert_once x ys) t

  beyond : ltb x y ≡ false → eqb x y ≡ false → insert_once x (y ∷ ys) ≡ y ∷ insert_once x ys
  beyond f g =
      cond-false (ltb x y) (x ∷ (y ∷ ys)) (cond (eqb x y) (y ∷ ys) (y ∷ insert_once x ys)) f
      ∙ cond-false (eqb x y) (y ∷ ys) (y ∷ insert_once x ys) g

-- what the set with x has is x, or was in the set
pub insert_once-member : (v x : ℕ) (ys : List ℕ) → IsMember v (insert_once x ys) → (v ≡ x) ⊎ IsMember v ys
insert_once-member v x [] (inl e) = inl e
insert_once-member v x [] (inr m) = absurd m
insert_once-member v x (y ∷ ys) m = by_test (insert_once-member v x ys) (cases_Bool (ltb x y)) (cases_Bool (eqb x y))
  where
    at_end : (v ≡ x) ⊎ IsMember v ys → (v ≡ x) ⊎ IsMember v (y ∷ ys)
    at_end (inl e) = inl e
    at_end (inr i) = inr (inr i)

    behind : (IsMember v (insert_once x ys) → (v ≡ x) ⊎ IsMember v ys)
        → IsMember v (y ∷ insert_once x ys)
        → (v ≡ x) ⊎ IsMember v (y ∷ ys)
    behind rest (inl e) = inr (inl e)
    behind rest (inr i) = at_end (rest i)

    front : IsMember v (x ∷ (y ∷ ys)) → (v ≡ x) ⊎ IsMember v (y ∷ ys)
    front (inl e) = inl e
    front (inr i) = inr i

    by_test : (IsMember v (insert_once x ys) → (v ≡ x) ⊎ IsMember v ys)
        → (ltb x y ≡ true) ⊎ (ltb x y ≡ false)
        → (eqb x y ≡ true) ⊎ (eqb x y ≡ false)
        → (v ≡ x) ⊎ IsMember v (y ∷ ys)
    by_test rest (inl t) e = front (subst (IsMember v) (below x y ys t) m)
    by_test rest (inr f) (inl t) = inr (subst (IsMember v) (same x y ys f t) m)
    by_test rest (inr f) (inr g) = behind rest (subst (IsMember v) (beyond x y ys f g) m)

-- the set with x has x
pub member-insert_once : (x : ℕ) (ys : List ℕ) → IsMember x (insert_once x ys)
member-insert_once x [] = inl refl
member-insert_once x (y ∷ ys) = by_test (member-insert_once x ys) (cases_Bool (ltb x y)) (cases_Bool (eqb x y))
  where
    by_test : IsMember x (insert_once x ys)
        → (ltb x y ≡ true) ⊎ (ltb x y ≡ false)
        → (eqb x y ≡ true) ⊎ (eqb x y ≡ false)
        → IsMember x (insert_once x (y ∷ ys))
    by_test rest (inl t) e = subst (IsMember x) (sym (below x y ys t)) (inl refl)
    by_test rest (inr f) (inl t) = subst (IsMember x) (sym (same x y ys f t)) (inl (eqb-true x y t))
    by_test rest (inr f) (inr g) = subst (IsMember x) (sym (beyond x y ys f g)) (inr rest)

-- and what the set had
pub insert_once-keeps : (v x : ℕ) (ys : List ℕ) → IsMember v ys → IsMember v (insert_once x ys)
insert_once-keeps v x [] m = absurd m
insert_once-keeps v x (y ∷ ys) m = by_test (insert_once-keeps v x ys) m (cases_Bool (ltb x y)) (cases_Bool (eqb x y))
  where
    by_test : (IsMember v ys → IsMember v (insert_once x ys))
        → IsMember v (y ∷ ys)
        → (ltb x y ≡ true) ⊎ (ltb x y ≡ false)
        → (eqb x y ≡ true) ⊎ (eqb x y ≡ false)
        → IsMember v (insert_once x (y ∷ ys))
    by_test rest i (inl t) e = subst (IsMember v) (sym (below x y ys t)) (inr i)
    by_test rest i (inr f) (inl t) = subst (IsMember v) (sym (same x y ys f t)) i
    by_test rest (inl e) (inr f) (inr g) = subst (IsMember v) (sym (beyond x y ys f g)) (inl e)
    by_test rest (inr i) (inr f) (inr g) = subst (IsMember v) (sym (beyond x y ys f g)) (inr (rest i))

-- the set with x is ascending
pub insert_once-is : (x : ℕ) (ys : List ℕ) → IsAscending ys → IsAscending (insert_once x ys)
insert_once-is x [] a = ((λ y m. absurd m), tt)
insert_once-is x (y ∷ ys) a = by_test (insert_once-is x ys a.1) (cases_Bool (ltb x y)) (cases_Bool (eqb x y))
  where
    above_x : x < y → (v : ℕ) → IsMember v (y ∷ ys) → x < v
    above_x low v (inl e) = omega arith
    above_x low v (inr i) = let above = a.0 v i in omega arith

    above_y : y < x → (v : ℕ) → (v ≡ x) ⊎ IsMember v ys → y < v
    above_y low v (inl e) = omega arith
    above_y low v (inr i) = a.0 v i

    by_test : IsAscending (insert_once x ys)
        → (ltb x y ≡ true) ⊎ (ltb x y ≡ false)
        → (eqb x y ≡ true) ⊎ (eqb x y ≡ false)
        → IsAscending (insert_once x (y ∷ ys))
    by_test rest (inl t) e = subst IsAscending (sym (below x y ys t)) (above_x (ltb-true x y t), a)
    by_test rest (inr f) (inl t) = subst IsAscending (sym (same x y ys f t)) a
    by_test rest (inr f) (inr g) =
        let le = ltb-false x y f in
        let ne = eqb-false x y g in
        let low : y < x = omega arith in
        subst IsAscending (sym (beyond x y ys f g)) ((λ v m. above_y low v (insert_once-member v x ys m)), rest)

-- a member of the list is one of the ascending list
pub member-ascending : (v : ℕ) (xs : List ℕ) → IsMember v xs → IsMember v (ascending xs)
member-ascending v [] m = absurd m
member-ascending v (x ∷ xs) (inl e) =
    subst (λ w. IsMember w (insert_once x (ascending xs))) (sym e) (member-insert_once x (ascending xs))
member-ascending v (x ∷ xs) (inr m) = insert_once-keeps v x (ascending xs) (member-ascending v xs m)

-- and the other way round
pub ascending-member : (v : ℕ) (xs : List ℕ) → IsMember v (ascending xs) → IsMember v xs
ascending-member v [] m = absurd m
ascending-member v (x ∷ xs) m = by_part (insert_once-member v x (ascending xs) m) (ascending-member v xs)
  where
    by_part : (v ≡ x) ⊎ IsMember v (ascending xs) → (IsMember v (ascending xs) → IsMember v xs) → IsMember v (x ∷ xs)
    by_part (inl e) rest = inl e
    by_part (inr i) rest = inr (rest i)

-- the ascending list is ascending
pub ascending-is : (xs : List ℕ) → IsAscending (ascending xs)
ascending-is [] = tt
ascending-is (x ∷ xs) = insert_once-is x (ascending xs) (ascending-is xs)

-- an earlier entry of an ascending list is below a later one
pub ascending-apart : (xs : List ℕ) (j k d : ℕ) → IsAscending xs → j < k → k < length xs → get_or xs j d < get_or xs k d
ascending-apart [] j k d a low fits = absurd (omega arith)
ascending-apart (x ∷ xs) j zero d a low fits = absurd (omega arith)
ascending-apart (x ∷ xs) zero (suc k) d a low fits = a.0 (get_or xs k d) (place-member xs k d (omega arith))
ascending-apart (x ∷ xs) (suc j) (suc k) d a low fits = ascending-apart xs j k d a.1 (omega arith) (omega arith)

-- two ascending lists with the same members are one
pub ascending_same : (xs ys : List ℕ)
    → IsAscending xs
    → IsAscending ys
    → ((v : ℕ) → IsMember v xs → IsMember v ys)
    → ((v : ℕ) → IsMember v ys → IsMember v xs)
    → xs ≡ ys
ascending_same [] [] a b to from = refl
ascending_same [] (y ∷ ys) a b to from = absurd (from y (inl refl))
ascending_same (x ∷ xs) [] a b to from = absurd (to x (inl refl))
ascending_same (x ∷ xs) (y ∷ ys) a b to from =
    λ i. heads i
    ∷ ascending_same xs ys a.1 b.1 (λ v m. later v (a.0 v m) (to v (inr m)))
    (λ v m. sooner v (b.0 v m) (from v (inr m)))
    i
  where
    heads : x ≡ y
    heads = by_place (to x (inl refl)) (from y (inl refl))
      where
        by_place : (x ≡ y) ⊎ IsMember x ys → (y ≡ x) ⊎ IsMember y xs → x ≡ y
        by_place (inl same) other = same
        by_place (inr m) (inl same) = sym same
        by_place (inr m) (inr k) = let p = b.0 x m in let q = a.0 y k in absurd (omega arith)

    later : (v : ℕ) → x < v → (v ≡ y) ⊎ IsMember v ys → IsMember v ys
    later v high (inl same) = let e = heads in absurd (omega arith)
    later v high (inr m) = m

    sooner : (v : ℕ) → y < v → (v ≡ x) ⊎ IsMember v xs → IsMember v xs
    sooner v high (inl same) = let e = heads in absurd (omega arith)
    sooner v high (inr m) = m

-- a list of one entry ascends
pub ascending-one : (x : ℕ) → IsAscending (x ∷ [])
ascending-one x = ((λ y m. absurd m), tt)

-- an ascending list with a lower entry in front of its first one ascends
pub ascending-cons : (x y : ℕ) (ys : List ℕ) → x < y → IsAscending (y ∷ ys) → IsAscending (x ∷ (y ∷ ys))
ascending-cons x y ys low a = (above, a)
  where
    above : (v : ℕ) → IsMember v (y ∷ ys) → x < v
    above v (inl e) = omega arith
    above v (inr m) = let later = a.0 v m in omega arith

-- an ascending list with a greater entry at its end ascends
pub ascending-append : (xs : List ℕ) (x : ℕ)
    → IsAscending xs
    → ((y : ℕ) → IsMember y xs → y < x)
    → IsAscending (xs ++ x ∷ [])
ascending-append [] x a high = ((λ y m. absurd m), tt)
ascending-append (z ∷ zs) x a high = (
  (λ y m. by_part y (member-append y zs (x ∷ []) m)),
  ascending-append zs x a.1 (λ y m. high y (inr m)),
)
  where
    by_part : (y : ℕ) → IsMember y zs ⊎ IsMember y (x ∷ []) → z < y
    by_part y (inl old) = a.0 y old
    by_part y (inr (inl new)) = let low = high z (inl refl) in omega arith
    by_part y (inr (inr none)) = absurd none

-- a part of an ascending list ascends
pub ascending-filter : (test : ℕ → Bool) (xs : List ℕ) → IsAscending xs → IsAscending (filter test xs)
ascending-filter test [] a = tt
ascending-filter test (x ∷ xs) a = by_test (cases_Bool (test x)) (ascending-filter test xs a.1)
  where
    by_test : (test x ≡ true) ⊎ (test x ≡ false) → IsAscending (filter test xs) → IsAscending (filter test (x ∷ xs))
    by_test (inl passes) rest =
        subst IsAscending (sym (cond-true (test x) (x ∷ filter test xs) (filter test xs) passes))
        ((λ y m. a.0 y (member-filter_from test y xs m).0), rest)
    by_test (inr fails) rest =
        subst IsAscending (sym (cond-false (test x) (x ∷ filter test xs) (filter test xs) fails)) rest

-- the set with x has one member more at most
pub length-insert_once : (x : ℕ) (ys : List ℕ) → length (insert_once x ys) ≤ length ys + 1
length-insert_once x [] = omega arith
length-insert_once x (y ∷ ys) = by_test (ltb x y) (eqb x y) (length-insert_once x ys)
  where
    by_test : (a b : Bool) → length (insert_once x ys) ≤ length ys + 1
        → length (cond a (x ∷ (y ∷ ys)) (cond b (y ∷ ys) (y ∷ insert_once x ys))) ≤ length (y ∷ ys) + 1
    by_test true b rest = omega arith
    by_test false true rest = omega arith
    by_test false false rest = omega arith

-- the ascending list is no longer
pub length-ascending : (xs : List ℕ) → length (ascending xs) ≤ length xs
length-ascending [] = omega arith
length-ascending (x ∷ xs) = omega (arith, length-insert_once x (ascending xs), length-ascending xs)
