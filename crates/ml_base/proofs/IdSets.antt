-- Sets of numbers as strictly ascending lists: what a search finds, and what a number put in makes of one.
--
--   found_at         == where a binary search succeeds, the number is in the list
--   missing_at       == where it fails, the number isn't there
--   search_contains  == both in one
--   put_ascends      == a number put in where a search ended leaves the list ascending
--   put_members      == and the list has that number and those that it had
--   search_member, found_member, missing_member, put_ascending  == the same of ascending lists
--   put_is, found_is  == the list with the number, where it is new, and where it isn't
--   one_list         == two ascending lists with the same members are equal
--   inserted_is_set  == insert_once makes the ascending list of the set with the number
--   ascending_is_set == ascending makes the ascending list of a list's members
use Rattle.std.proofs.Common.{◌≡◌, ◌↔◌, ℕ, suc, ◌+◌, ◌<◌, ◌≤◌, ◌⊎◌, List, [], ◌∷◌, ◌++◌, length, take, drop, get_or, Contains, IsTrue, Result, Ok, Err, inl, inr, refl, sym, ap, subst, ◌∙◌, ⊎_elim, arith}
use Rattle.std.specs.List.{insert}
use Rattle.std.specs.List.Sorted.{IsStrictlyIncreasing, IsBinarySearchResult}
use Rattle.std.specs.Ordering.{nat_cmp}
use Rattle.std.specs.Result.{is_ok}
use Rattle.std.proofs.lemmas.List.{take-append-drop, length-take, length-drop, get_or-take, get_or-drop, get_or_default}
use Rattle.std.proofs.lemmas.Bool.{cases_eq, cases_lt, true≢false}
use Rattle.std.proofs.lemmas.List.Kept.{AllPairs-from_increasing}
use Rattle.std.proofs.lemmas.List.Sorted.{searched}
use Rattle.ml_lists.specs.Ascending.{IsAscending, ascending, insert_once}
use Rattle.ml_lists.specs.Member.{IsMember}
use Rattle.ml_lists.proofs.Ascending.{ascending_same, ascending-is, ascending-member, member-ascending, insert_once-is, insert_once-keeps, insert_once-member, member-insert_once}
use Rattle.ml_lists.proofs.Members.{contains_middle, contains_without, contains_with, member_of_contains, contains_of_member}
use Rattle.ml_lists.proofs.Increasing.{Above, Below, Ascends, ascends_from, increasing_from, ascends_with, increasing_of_ascending, ascending_of_increasing}

abbrev pub Found : List ℕ → ℕ → Result ℕ ℕ → Type 0
Found xs x r = IsBinarySearchResult (λ y. nat_cmp y x) xs r

never_falls : (xs : List ℕ) → IsStrictlyIncreasing xs → (i j : ℕ) → i ≤ j → j < length xs → get_or xs i 0 ≤ get_or xs j 0
never_falls xs increases i j order below =
    ⊎_elim
    (λ (is : i ≡ j). let same = ap (λ k. get_or xs k 0) is in omega arith)
    (λ (ne : i ≡ j → ⊥). let apart : i < j = omega arith in let rises = AllPairs-from_increasing xs increases i j 0 apart below in omega arith)
    (cases_eq i j)

pub found_at : (xs : List ℕ) (x i : ℕ) → IsStrictlyIncreasing xs → Found xs x (Ok i) → Contains xs x
found_at xs x i increases found =
    let at = searched xs x (Ok i) found (never_falls xs increases) in
    (i, at.0, get_or_default xs i x 0 at.0 ∙ at.1)

pub missing_at : (xs : List ℕ) (x i : ℕ) → IsStrictlyIncreasing xs → Found xs x (Err i) → ¬ (Contains xs x)
missing_at xs x i increases found (k, below, is) =
    let at = searched xs x (Err i) found (never_falls xs increases) in
    let entry : get_or xs k 0 ≡ x = get_or_default xs k 0 x below ∙ is in
    ⊎_elim
    (λ (before : k < i). let lower = at.1 k before in absurd (omega arith))
    (λ (behind : i ≤ k). let higher = at.2 k behind below in absurd (omega arith))
    (cases_lt k i)

pub search_contains : (xs : List ℕ) (x : ℕ) (r : Result ℕ ℕ) → IsStrictlyIncreasing xs → Found xs x r → IsTrue (is_ok r) ↔ Contains xs x
search_contains xs x (Ok i) increases found = (λ _. found_at xs x i increases found, λ _. refl)
search_contains xs x (Err i) increases found = (λ h. absurd (true≢false (sym h)), λ h. absurd (missing_at xs x i increases found h))

below_each : (x : ℕ) (ys : List ℕ) → ((k : ℕ) → k < length ys → get_or ys k 0 < x) → Below x ys
below_each x [] each = tt
below_each x (y ∷ ys) each = (each 0 (omega arith), below_each x ys (λ k h. each (suc k) (omega arith)))

above_each : (x : ℕ) (ys : List ℕ) → ((k : ℕ) → k < length ys → x < get_or ys k 0) → Above x ys
above_each x [] each = tt
above_each x (y ∷ ys) each = (each 0 (omega arith), above_each x ys (λ k h. each (suc k) (omega arith)))

pub put_ascends : (xs : List ℕ) (x i : ℕ) → IsStrictlyIncreasing xs → Found xs x (Err i) → IsStrictlyIncreasing (insert xs i x)
put_ascends xs x i increases found =
    let at = searched xs x (Err i) found (never_falls xs increases) in
    increasing_from (insert xs i x)
    (ascends_with (take i xs) x (drop i xs) (subst Ascends (sym (take-append-drop i xs)) (ascends_from xs increases))
    (below_each x (take i xs)
    (λ k h. let before : k < i = omega (arith, length-take i xs) in
    subst (λ y. y < x) (sym (get_or-take i xs k 0 before)) (at.1 k before)))
    (above_each x (drop i xs)
    (λ k h. let within : i + k < length xs = omega (arith, length-drop i xs) in
    subst (λ y. x < y) (sym (get_or-drop i xs k 0)) (at.2 (i + k) (omega arith) within))))

put_members : (xs : List ℕ) (x i : ℕ) (y : ℕ) → Contains (insert xs i x) y ↔ ((y ≡ x) ⊎ Contains xs y)
put_members xs x i y = (there y, back y)
  where
    there : (y : ℕ) → Contains (insert xs i x) y → (y ≡ x) ⊎ Contains xs y
    there y inside =
        ⊎_elim
        (λ (is : x ≡ y). inl (sym is))
        (λ (h : Contains (take i xs ++ drop i xs) y). inr (subst (λ zs. Contains zs y) (take-append-drop i xs) h))
        (contains_without (take i xs) x (drop i xs) y inside)

    back : (y : ℕ) → (y ≡ x) ⊎ Contains xs y → Contains (insert xs i x) y
    back y inside =
        ⊎_elim
        (λ (is : y ≡ x). subst (λ z. Contains (insert xs i x) z) (sym is) (contains_middle (take i xs) x (drop i xs)))
        (λ (h : Contains xs y). contains_with (take i xs) x (drop i xs) y (subst (λ zs. Contains zs y) (sym (take-append-drop i xs)) h))
        inside

-- the same in the words of ascending lists
pub search_member : (xs : List ℕ) (x : ℕ) (r : Result ℕ ℕ) → IsAscending xs → Found xs x r → IsTrue (is_ok r) ↔ IsMember x xs
search_member xs x r ascends found =
    let both = search_contains xs x r (increasing_of_ascending xs ascends) found in
    (λ h. member_of_contains x xs (both.0 h), λ h. both.1 (contains_of_member x xs h))

pub missing_member : (xs : List ℕ) (x i : ℕ) → IsAscending xs → Found xs x (Err i) → ¬ (IsMember x xs)
missing_member xs x i ascends found h = missing_at xs x i (increasing_of_ascending xs ascends) found (contains_of_member x xs h)

pub put_ascending : (xs : List ℕ) (x i : ℕ) → IsAscending xs → Found xs x (Err i) → IsAscending (insert xs i x)
put_ascending xs x i ascends found = ascending_of_increasing (insert xs i x) (put_ascends xs x i (increasing_of_ascending xs ascends) found)

pub put_is : (xs : List ℕ) (x i : ℕ) → IsAscending xs → Found xs x (Err i) → insert xs i x ≡ insert_once x xs
put_is xs x i ascends found =
    ascending_same (insert xs i x) (insert_once x xs) (put_ascending xs x i ascends found) (insert_once-is x xs ascends)
    (λ y inside.
    ⊎_elim
    (λ (is : y ≡ x). subst (λ z. IsMember z (insert_once x xs)) (sym is) (member-insert_once x xs))
    (λ (h : Contains xs y). insert_once-keeps y x xs (member_of_contains y xs h))
    ((put_members xs x i y).0 (contains_of_member y (insert xs i x) inside)))
    (λ y inside.
    member_of_contains y (insert xs i x) ((put_members xs x i y).1
    (⊎_elim
    (λ (is : y ≡ x). inl is)
    (λ (h : IsMember y xs). inr (contains_of_member y xs h))
    (insert_once-member y x xs inside))))

pub found_member : (xs : List ℕ) (x i : ℕ) → IsAscending xs → Found xs x (Ok i) → IsMember x xs
found_member xs x i ascends found = member_of_contains x xs (found_at xs x i (increasing_of_ascending xs ascends) found)

pub found_is : (xs : List ℕ) (x i : ℕ) → IsAscending xs → Found xs x (Ok i) → xs ≡ insert_once x xs
found_is xs x i ascends found =
    let here = found_member xs x i ascends found in
    ascending_same xs (insert_once x xs) ascends (insert_once-is x xs ascends)
    (λ y inside. insert_once-keeps y x xs inside)
    (λ y inside.
    ⊎_elim
    (λ (is : y ≡ x). subst (λ z. IsMember z xs) (sym is) here)
    (λ (h : IsMember y xs). h)
    (insert_once-member y x xs inside))

pub one_list : (xs ys : List ℕ) → IsAscending xs → IsAscending ys → ((x : ℕ) → IsMember x xs ↔ IsMember x ys) → xs ≡ ys
one_list xs ys left right same = ascending_same xs ys left right (λ z. (same z).0) (λ z. (same z).1)

pub inserted_is_set :
    (x : ℕ) (xs : List ℕ)
    → IsAscending xs
    → IsAscending (insert_once x xs) × ((y : ℕ) → IsMember y (insert_once x xs) ↔ ((y ≡ x) ⊎ IsMember y xs))
inserted_is_set x xs ascends = (insert_once-is x xs ascends, λ y. (insert_once-member y x xs, back y))
  where
    back : (y : ℕ) → (y ≡ x) ⊎ IsMember y xs → IsMember y (insert_once x xs)
    back y inside =
        ⊎_elim
        (λ (is : y ≡ x). subst (λ z. IsMember z (insert_once x xs)) (sym is) (member-insert_once x xs))
        (λ (h : IsMember y xs). insert_once-keeps y x xs h)
        inside

pub ascending_is_set :
    (xs : List ℕ) → IsAscending (ascending xs) × ((y : ℕ) → IsMember y (ascending xs) ↔ IsMember y xs)
ascending_is_set xs = (ascending-is xs, λ y. (ascending-member y xs, member-ascending y xs))
