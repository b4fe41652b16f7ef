-- Places in a list of names in which none stands twice.
--
--   position_hit, position_miss == where a test first passes, and where it doesn't pass at all
--   same_place                  == a name has one place
--   found_at                    == a name that is found is equal to that name alone
--   one_name                    == a list of one name has none twice
--   name_added                  == the names up to a place, and then the name at it
use Rattle.std.proofs.Common.{ℕ, zero, suc, ◌≡◌, ◌+◌, ◌<◌, ◌≤◌, ◌==◌, ◌⊎◌, inl, inr, ⊎_elim, Bool, true, false, ◌||◌, if◌then◌else◌}
use Rattle.std.proofs.Common.{nat_lt, List, [], ◌∷◌, ◌++◌, length, get_or, take, Some, None, refl, sym, ap, ◌∙◌, subst, arith}
use Rattle.std.specs.List.{list_any, position, position_or_len, IsDistinct, AllByRecursion}
use Rattle.std.specs.Str.{bytes_eq}
use Rattle.std.proofs.lemmas.Bool.{cases_eq, cases_lt}
use Rattle.std.proofs.lemmas.Bool.Decides.{nat_tests}
use Rattle.std.proofs.lemmas.List.{take_more}
use Rattle.std.proofs.lemmas.List.Sums.{fails_before_first, passes_at_first}
use Rattle.std.proofs.lemmas.Slice.Eq.{bytes_eq-Decides}
use Rattle.std.proofs.lemmas.Option.{cond_some}
use Rattle.ml_lists.proofs.Entries.{cond-none}

-- where a test first passes, it passes
pub position_hit : {X : Type 0} → (p : X → Bool) (xs : List X) (i : ℕ) (d : X) → position p xs ≡ Some i
    → (i < length xs) × (p (get_or xs i d) ≡ true)
position_hit p xs i d e =
    let is = cond_some (nat_lt (position_or_len p xs) (length xs)) (position_or_len p xs) i e in
    let low : position_or_len p xs < length xs = grind (arith, nat_tests) in
    (omega arith, subst (λ k. p (get_or xs k d) ≡ true) is.1 (passes_at_first p xs d low))

-- where it never passes, it fails everywhere
pub position_miss : {X : Type 0} → (p : X → Bool) (xs : List X) (d : X) → position p xs ≡ None → (k : ℕ)
    → k < length xs → p (get_or xs k d) ≡ false
position_miss p xs d e k low =
    let is = (cond-none (nat_lt (position_or_len p xs) (length xs)) (position_or_len p xs) None e).0 in
    let high : length xs ≤ position_or_len p xs = grind (arith, nat_tests) in
    fails_before_first p xs k d (omega arith)

all_at : {X : Type 0} → (P : X → Type 0) (xs : List X) (d : X) → AllByRecursion P xs → (j : ℕ) → j < length xs
    → P (get_or xs j d)
all_at P [] d all j low = absurd (omega arith)
all_at P (x ∷ xs) d all zero low = all.0
all_at P (x ∷ xs) d all (suc j) low = all_at P xs d all.1 j (omega arith)

-- names at two places differ
apart : (xs : List (List ℕ)) → IsDistinct bytes_eq xs → (i j : ℕ) → i < j → j < length xs
    → get_or xs i [] ≡ get_or xs j [] → ⊥
unfolding IsDistinct
apart [] different i j less low same = absurd (omega arith)
apart (x ∷ xs) different zero zero less low same = absurd (omega arith)
apart (x ∷ xs) different zero (suc j) less low same =
    let unequal = all_at (λ y. bytes_eq x y ≡ false) xs [] different.0 j (omega arith) in
    let equal = (bytes_eq-Decides x (get_or xs j [])).1 same in
    cc
apart (x ∷ xs) different (suc i) zero less low same = absurd (omega arith)
apart (x ∷ xs) different (suc i) (suc j) less low same = apart xs different.1 i j (omega arith) (omega arith) same

-- a name has one place
pub same_place : (xs : List (List ℕ)) → IsDistinct bytes_eq xs → (i j : ℕ) → i < length xs → j < length xs
    → get_or xs i [] ≡ get_or xs j [] → i ≡ j
same_place xs different i j i_low j_low same =
    ⊎_elim (λ (less : i < j). absurd (apart xs different i j less j_low same))
    (λ (other : j ≤ i). ⊎_elim (λ (less : j < i). absurd (apart xs different j i less i_low (sym same)))
    (λ (also : i ≤ j). omega arith) (cases_lt j i))
    (cases_lt i j)

-- one name differs from all others
pub one_name : (x : List ℕ) → IsDistinct bytes_eq (x ∷ [])
unfolding IsDistinct
one_name x = (tt, tt)

-- a name that is found is equal to the name at its place, and to no other
pub found_at : (xs : List (List ℕ)) → IsDistinct bytes_eq xs → (x : List ℕ) (i : ℕ) → position (bytes_eq x) xs ≡ Some i
    → (i < length xs) × ((k : ℕ) → k < length xs → bytes_eq x (get_or xs k []) ≡ (k == i))
found_at xs different x i is = (hit.0, λ k low. by_place k low (cases_eq k i))
  where
    hit : (i < length xs) × (bytes_eq x (get_or xs i []) ≡ true)
    hit = position_hit (bytes_eq x) xs i [] is

    name : x ≡ get_or xs i []
    name = (bytes_eq-Decides x (get_or xs i [])).0 hit.1

    by_test : (k : ℕ) (b : Bool) → k < length xs → bytes_eq x (get_or xs k []) ≡ b → (k ≡ i → ⊥) → b ≡ false
    by_test k false low equal other = refl
    by_test k true low equal other =
        absurd (other (same_place xs different k i low hit.0
        (sym ((bytes_eq-Decides x (get_or xs k [])).0 equal) ∙ name)))

    by_place : (k : ℕ) → k < length xs → (k ≡ i) ⊎ (k ≡ i → ⊥) → bytes_eq x (get_or xs k []) ≡ (k == i)
    by_place k low (inl here) =
        let test : (k == i) ≡ true = grind (arith, nat_tests) in
        ap (λ j. bytes_eq x (get_or xs j [])) here ∙ hit.1 ∙ sym test
    by_place k low (inr there) =
        let test : (k == i) ≡ false = grind (arith, nat_tests) in
        by_test k (bytes_eq x (get_or xs k [])) low refl there ∙ sym test

-- no name stands before its place
fresh : (xs : List (List ℕ)) → IsDistinct bytes_eq xs → (i : ℕ) (x : List ℕ) → i < length xs → x ≡ get_or xs i x
    → list_any (bytes_eq x) (take i xs) ≡ false
unfolding IsDistinct
fresh [] different i x low is = absurd (omega arith)
fresh (y ∷ ys) different zero x low is = refl
fresh (y ∷ ys) different (suc i) x low is =
    ap (λ b. b || list_any (bytes_eq x) (take i ys)) (by_test (bytes_eq x y) refl)
    ∙ fresh ys different.1 i x (omega arith) is
  where
    unequal : bytes_eq y (get_or ys i x) ≡ false
    unequal = all_at (λ z. bytes_eq y z ≡ false) ys x different.0 i (omega arith)

    by_test : (b : Bool) → bytes_eq x y ≡ b → b ≡ false
    by_test false equal = refl
    by_test true equal =
        let same : x ≡ y = (bytes_eq-Decides x y).0 equal in
        let again : bytes_eq y (get_or ys i x) ≡ true = (bytes_eq-Decides y (get_or ys i x)).1 (sym same ∙ is) in
        let other : bytes_eq y (get_or ys i x) ≡ false = unequal in
        cc

-- the names up to a place, and then the name at it
pub name_added : (xs : List (List ℕ)) → IsDistinct bytes_eq xs → (i : ℕ) (x : List ℕ) → i < length xs
    → x ≡ get_or xs i x
    → (if list_any (bytes_eq x) (take i xs) then take i xs else take i xs ++ x ∷ []) ≡ take (i + 1) xs
name_added xs different i x low is =
    ap (λ b. if b then take i xs else take i xs ++ x ∷ []) (fresh xs different i x low is)
    ∙ ap (λ y. take i xs ++ y ∷ []) is
    ∙ sym (take_more xs i x low)
