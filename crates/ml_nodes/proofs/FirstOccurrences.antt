-- Lists in which numbers come up in their order.
--
--   each_once-member          == what a list has once, it has
--   range_prefix         == the front of a range has all smaller numbers
--   Orderly A xs         == behind A, each number of xs comes up behind all smaller ones
--   orderly              == of a list that has each number of a range first in the range's order
--   rows_before n rows   == the first n rows, one behind the other
--   all_rows             == they are the front of all rows
use Rattle.std.proofs.Common.{ℕ, zero, suc, ◌≡◌, ◌+◌, ◌<◌, ◌≤◌, ◌⊎◌, inl, inr, arith, List, [], ◌∷◌, ◌++◌, length, get_or, refl, sym, ap, ◌∙◌, ⊎_elim, append_assoc}
use Rattle.std.specs.List.{flat_map, range_with_len}
use Rattle.std.proofs.lemmas.Bool.{cases_eq}
use Rattle.ml_lists.specs.BreadthFirst.{each_once}
use Rattle.ml_lists.specs.Member.{IsMember}
use Rattle.ml_lists.proofs.BreadthFirst.{member-each_once, each_once-front, each_once-member}
use Rattle.ml_lists.proofs.Member.{member-append, member-append_left, member-append_right}

heads : {x y : ℕ} {xs ys : List ℕ} → x ∷ xs ≡ y ∷ ys → (x ≡ y) × (xs ≡ ys)
heads {x = x} {xs = xs} e = (ap (λ l. get_or l 0 x) e, ap tail_of e)
  where
    tail_of : List ℕ → List ℕ
    tail_of [] = []
    tail_of (z ∷ zs) = zs

pub range_prefix : (xs rest : List ℕ) (a n x d : ℕ)
    → xs ++ rest ≡ range_with_len a n
    → IsMember x xs
    → a ≤ d
    → d < x
    → IsMember d xs
range_prefix [] rest a n x d e none from less = absurd none
range_prefix (y ∷ ys) rest a zero x d e m from less = absurd (let wrong = ap length e in omega (arith, wrong))
range_prefix (y ∷ ys) rest a (suc n) x d e m from less =
    by_part (λ same i above. range_prefix ys rest (a + 1) n x d same i above less) (heads e) m (cases_eq d y)
  where
    by_part : (ys ++ rest ≡ range_with_len (a + 1) n → IsMember x ys → a + 1 ≤ d → IsMember d ys)
        → (y ≡ a) × (ys ++ rest ≡ range_with_len (a + 1) n)
        → (x ≡ y) ⊎ IsMember x ys
        → (d ≡ y) ⊎ (d ≡ y → ⊥)
        → IsMember d (y ∷ ys)
    by_part go parts m (inl same) = inl same
    by_part go parts (inl is) (inr other) = let first = parts.0 in absurd (omega (arith, is, first, from, less))
    by_part go parts (inr i) (inr other) =
        let first = parts.0 in
        inr (go parts.1 i (omega (arith, first, from, other)))

abbrev pub Orderly : List ℕ → List ℕ → Type 0
Orderly A [] = Unit {0}
Orderly A (x ∷ xs) = ((d : ℕ) → d < x → IsMember d A) × Orderly (A ++ x ∷ []) xs

-- one more, in front of the others
one_more : (A : List ℕ) (x : ℕ) (xs : List ℕ) → A ++ (x ∷ xs) ≡ (A ++ x ∷ []) ++ xs
one_more A x xs = sym (append_assoc A (x ∷ []) xs)

pub orderly : (n : ℕ) (A xs : List ℕ) → range_with_len 0 n ≡ each_once (A ++ xs) → Orderly A xs
orderly n A [] e = tt
orderly n A (x ∷ xs) e = (before, orderly n (A ++ x ∷ []) xs longer)
  where
    longer : range_with_len 0 n ≡ each_once ((A ++ x ∷ []) ++ xs)
    longer = e ∙ ap each_once (one_more A x xs)

    before : (d : ℕ) → d < x → IsMember d A
    before d less =
        let front = each_once-front (A ++ x ∷ []) xs in
        let here : IsMember x (each_once (A ++ x ∷ [])) =
        member-each_once x (A ++ x ∷ []) (member-append_right x A (x ∷ []) (inl refl)) in
        let smaller =
        range_prefix (each_once (A ++ x ∷ [])) front.0 0 n x d (sym front.1 ∙ sym longer) here (omega arith) less in
        ⊎_elim (λ (i : IsMember d A). i)
        (λ (i : IsMember d (x ∷ [])). absurd (alone i))
        (member-append d A (x ∷ []) (each_once-member d (A ++ x ∷ []) smaller))
      where
        alone : IsMember d (x ∷ []) → ⊥
        alone (inl e) = omega (arith, e, less)
        alone (inr none) = none

pub orderly_front : (A xs ys : List ℕ) → Orderly A (xs ++ ys) → Orderly A xs
orderly_front A [] ys o = tt
orderly_front A (x ∷ xs) ys o = (o.0, orderly_front (A ++ x ∷ []) xs ys o.1)

-- ---- rows

abbrev pub rows_before : ℕ → List (List ℕ) → List ℕ
rows_before zero rows = []
rows_before (suc n) [] = []
rows_before (suc n) (r ∷ rows) = r ++ rows_before n rows

pub all_rows : (n : ℕ) (rows : List (List ℕ)) → (rest : List ℕ) × (flat_map (λ r. r) rows ≡ rows_before n rows ++ rest)
all_rows zero rows = (flat_map (λ r. r) rows, refl)
all_rows (suc n) [] = ([], refl)
all_rows (suc n) (r ∷ rows) =
    let later = all_rows n rows in
    (later.0, ap (λ l. r ++ l) later.1 ∙ sym (append_assoc r (rows_before n rows) later.0))

pub row_member : (n : ℕ) (rows : List (List ℕ)) (j x : ℕ)
    → j < n
    → IsMember x (get_or rows j [])
    → IsMember x (rows_before n rows)
row_member zero rows j x low m = absurd (omega (arith, low))
row_member (suc n) [] zero x low none = absurd none
row_member (suc n) [] (suc j) x low none = absurd none
row_member (suc n) (r ∷ rows) zero x low m = member-append_left x r (rows_before n rows) m
row_member (suc n) (r ∷ rows) (suc j) x low m =
    member-append_right x r (rows_before n rows) (row_member n rows j x (omega (arith, low)) m)
