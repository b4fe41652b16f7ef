-- What a list contains, taken apart at its head.
--
--   contains_head    == a list contains its head
--   contains_later   == a list contains what its tail does
--   contains_cases   == what a list contains is its head, or is in its tail
--   contains_none    == the empty list contains nothing
--   contains_middle  == what stands in the middle is contained
--   contains_without == and what else a list contains is contained without it
--   contains_with    == what a list contains is contained with something in the middle too
--   member_of_contains, contains_of_member  == the same as `IsMember`
--   All-more_read    == what holds of the first elements, and of the next one as it is read, holds of one more
--   next_holds       == and whatever stands past the end
--   All-read         == at the end it holds of all
--   All-of_members   == what holds of all elements of a list holds of all elements of one that contains no others
use Rattle.std.proofs.Common.{◌≡◌, ℕ, zero, suc, ◌+◌, ◌<◌, ◌≤◌, ◌⊎◌, List, [], ◌∷◌, ◌++◌, length, get_or, take, All, Contains, inl, inr, refl, sym, subst, ⊎_elim, arith}
use Rattle.std.proofs.lemmas.List.{get_or_default, take_all}
use Rattle.ml_lists.specs.Member.{IsMember}
use Rattle.std.proofs.lemmas.List.Elements.{All-contains, All-more, Contains-get_or, Contains-append_left, Contains-append_right, Contains-append_cases}

pub contains_head : {X : Type 0} (x : X) (xs : List X) → Contains (x ∷ xs) x
contains_head x xs = (0, omega arith, refl)

pub contains_later : {X : Type 0} (x : X) (xs : List X) (q : X) → Contains xs q → Contains (x ∷ xs) q
contains_later x xs q (k, below, is) = (suc k, omega arith, is)

pub contains_cases : {X : Type 0} (x : X) (xs : List X) (q : X) → Contains (x ∷ xs) q → (x ≡ q) ⊎ Contains xs q
contains_cases x xs q (zero, below, is) = inl is
contains_cases x xs q (suc k, below, is) = inr (k, omega arith, is)

pub contains_none : {X : Type 0} (q : X) → Contains [] q → ⊥
contains_none q (k, below, is) = absurd (omega arith)

pub contains_middle : {X : Type 0} (front : List X) (x : X) (back : List X) → Contains (front ++ x ∷ back) x
contains_middle front x back = Contains-append_right front (x ∷ back) x (contains_head x back)

pub contains_without : {X : Type 0} (front : List X) (x : X) (back : List X) (q : X) → Contains (front ++ x ∷ back) q
    → (x ≡ q) ⊎ Contains (front ++ back) q
contains_without front x back q inside =
    ⊎_elim
    (λ (before : Contains front q). inr (Contains-append_left front back q before))
    (λ (after : Contains (x ∷ back) q).
    ⊎_elim
    (λ (is : x ≡ q). inl is)
    (λ (later : Contains back q). inr (Contains-append_right front back q later))
    (contains_cases x back q after))
    (Contains-append_cases front (x ∷ back) q inside)

pub contains_with : {X : Type 0} (front : List X) (x : X) (back : List X) (q : X)
    → Contains (front ++ back) q
    → Contains (front ++ x ∷ back) q
contains_with front x back q inside =
    ⊎_elim
    (λ (before : Contains front q). Contains-append_left front (x ∷ back) q before)
    (λ (after : Contains back q). Contains-append_right front (x ∷ back) q (contains_later x back q after))
    (Contains-append_cases front back q inside)

pub member_of_contains : {X : Type 0} (x : X) (xs : List X) → Contains xs x → IsMember x xs
member_of_contains x [] inside = absurd (contains_none x inside)
member_of_contains x (y ∷ ys) inside =
    ⊎_elim (λ (is : y ≡ x). inl (sym is)) (λ (later : Contains ys x). inr (member_of_contains x ys later))
    (contains_cases y ys x inside)

pub contains_of_member : {X : Type 0} (x : X) (xs : List X) → IsMember x xs → Contains xs x
contains_of_member x [] inside = absurd inside
contains_of_member x (y ∷ ys) (inl is) = subst (λ z. Contains (z ∷ ys) x) is (contains_head x ys)
contains_of_member x (y ∷ ys) (inr later) = contains_later y ys x (contains_of_member x ys later)

pub All-of_members : {X : Type 0} (P : X → Type 0) (xs ys : List X)
    → ((x : X) → Contains ys x → Contains xs x)
    → All P xs
    → All P ys
All-of_members P xs ys within all = λ k d below. All-contains P xs (get_or ys k d) all (within (get_or ys k d) (Contains-get_or ys k d below))

pub All-more_read : {X : Type 0} (P : X → Type 0) (xs : List X) (i : ℕ) (x : X)
    → i < length xs
    → x ≡ get_or xs i x
    → P x
    → All P (take i xs) → All P (take (i + 1) xs)
All-more_read P xs i x here is holds so_far = All-more P xs i x here so_far (subst P is holds)

pub next_holds : {X : Type 0} (P : X → Type 0) (xs : List X) (i : ℕ) (d : X)
    → i < length xs
    → P (get_or xs i d)
    → All P (take i xs)
    → All P (take (i + 1) xs)
next_holds P xs i d low holds so_far =
    let x = get_or xs i d in All-more_read P xs i x low (get_or_default xs i d x low) holds so_far

pub All-read : {X : Type 0} (P : X → Type 0) (xs : List X) (i : ℕ) → length xs ≤ i → All P (take i xs) → All P xs
All-read P xs i past all = subst (All P) (take_all i xs past) all
