-- Entries of lists, found by a place or by a test.
--
--   some_entry    == there is an entry at each place below the length
--   get_grown     == an entry stays where it is when the list grows
--   same_head, same_tail == equal lists have equal heads and equal tails
--   no_middle     == the empty list has no entry in its middle
--   cond-none     == where one choice after another chooses nothing, neither does
--   find-none     == no number is found that is so great, where all are less
use Rattle.std.proofs.Common.{ℕ, zero, suc, ◌≡◌, ◌<◌, Bool, true, false, cond, inl, inr, List, [], ◌∷◌, ◌++◌, length, Option, Some, None, refl, ◌∙◌, arith}
use Rattle.std.specs.List.{slice_get, find}
use Rattle.std.specs.Prelude.{nat_le}
use Rattle.std.proofs.lemmas.Bool.{cond-false}
use Rattle.std.proofs.lemmas.Bool.Decides.{nat_tests}
use Rattle.ml_lists.specs.Member.{IsMember}

pub some_entry : {X : Type 0} (xs : List X) (i : ℕ) → i < length xs → (x : X) × (slice_get xs i ≡ Some x)
some_entry [] i low = absurd (omega arith)
some_entry (x ∷ xs) zero low = (x, refl)
some_entry (x ∷ xs) (suc i) low = some_entry xs i (omega arith)

pub get_grown : {X : Type 0} (xs ys : List X) (k : ℕ) (x : X)
    → slice_get xs k ≡ Some x
    → slice_get (xs ++ ys) k ≡ Some x
get_grown [] ys k x is = absurd (cc)
get_grown (z ∷ zs) ys zero x is = is
get_grown (z ∷ zs) ys (suc k) x is = get_grown zs ys k x is

pub same_head : {X : Type 0} (x y : X) (xs ys : List X) → x ∷ xs ≡ y ∷ ys → x ≡ y
same_head x y xs ys e = cc

pub same_tail : {X : Type 0} (x y : X) (xs ys : List X) → x ∷ xs ≡ y ∷ ys → xs ≡ ys
same_tail x y xs ys e = cc

pub no_middle : {X : Type 0} (front : List X) (x : X) (back : List X) → [] ≡ front ++ x ∷ back → ⊥
no_middle [] x back e = cc
no_middle (y ∷ front) x back e = cc

pub cond-none : {X : Type 0} (b : Bool) (x : X) (o : Option X) → cond b (Some x) o ≡ None → (b ≡ false) × (o ≡ None)
cond-none true x o e = cc
cond-none false x o e = (refl, e)

pub find-none : (n : ℕ) (xs : List ℕ) → ((x : ℕ) → IsMember x xs → x < n) → find (nat_le n) xs ≡ None
find-none n [] low = refl
find-none n (x ∷ xs) low =
    let here = low x (inl refl) in
    let below : nat_le n x ≡ false = grind (arith, nat_tests) in
    cond-false (nat_le n x) (Some x) (find (nat_le n) xs) below ∙ find-none n xs (λ y m. low y (inr m))
