-- Strictly increasing lists of numbers, by recursion: how one is put together.
--
-- `IsAscending` speaks of members and the library's `IsStrictlyIncreasing` of places. `Ascends`, between the two, computes.
--
--   Above x ys         == x is below each number of ys
--   Ascends xs         == each number of xs is below all that stand behind it
--   ascends_from       == a strictly increasing list ascends
--   increasing_from    == and the other way round
--   ascends_with       == a number in the middle, above what stands before it and below what stands behind
--   ascends_merge      == of two lists with one front, the lesser head goes to the front of both
--   increasing_of_ascending, ascending_of_increasing  == the same as `IsAscending`
use Rattle.std.proofs.Common.{◌≡◌, ℕ, ◌<◌, List, [], ◌∷◌, ◌++◌, refl, sym, subst, inl, inr, append_assoc, arith}
use Rattle.std.specs.List.{AllByRecursion}
use Rattle.std.specs.List.Sorted.{IsStrictlySortedBy, IsStrictlyIncreasing}
use Rattle.std.specs.Ordering.{nat_cmp}
use Rattle.std.specs.Cmp.{nat_cmp_is}
use Rattle.std.specs.declared.cmp.Ordering.TheVariants.{Less}
use Rattle.std.proofs.lemmas.Cmp.{ranked}
use Rattle.std.proofs.lemmas.Map.Keys.{IsStrictlyIncreasing-from_sorted, sorted_from_strictly_increasing}
use Rattle.ml_lists.specs.Ascending.{IsAscending}
use Rattle.ml_lists.specs.Member.{IsMember}

abbrev pub Above : ℕ → List ℕ → Type 0
Above x [] = Unit {0}
Above x (y ∷ ys) = (x < y) × Above x ys

abbrev pub Ascends : List ℕ → Type 0
Ascends [] = Unit {0}
Ascends (x ∷ xs) = Above x xs × Ascends xs

below_of : (x y : ℕ) → nat_cmp x y ≡ Less → x < y
below_of x y is = ranked x y Less (sym is)

less_of : (x y : ℕ) → x < y → nat_cmp x y ≡ Less
less_of x y below = sym (nat_cmp_is x y Less below)

above_from : (x : ℕ) (ys : List ℕ) → AllByRecursion (λ y. nat_cmp x y ≡ Less) ys → Above x ys
above_from x [] all = tt
above_from x (y ∷ ys) all = (below_of x y all.0, above_from x ys all.1)

all_less : (x : ℕ) (ys : List ℕ) → Above x ys → AllByRecursion (λ y. nat_cmp x y ≡ Less) ys
all_less x [] above = tt
all_less x (y ∷ ys) above = (less_of x y above.0, all_less x ys above.1)

ascends_from_sorted : (xs : List ℕ) → IsStrictlySortedBy nat_cmp xs → Ascends xs
unfolding IsStrictlySortedBy
ascends_from_sorted [] sorted = tt
ascends_from_sorted (x ∷ xs) sorted = (above_from x xs sorted.0, ascends_from_sorted xs sorted.1)

sorted_from : (xs : List ℕ) → Ascends xs → IsStrictlySortedBy nat_cmp xs
unfolding IsStrictlySortedBy
sorted_from [] ascends = tt
sorted_from (x ∷ xs) ascends = (all_less x xs ascends.0, sorted_from xs ascends.1)

pub ascends_from : (xs : List ℕ) → IsStrictlyIncreasing xs → Ascends xs
ascends_from xs increases = ascends_from_sorted xs (sorted_from_strictly_increasing xs increases)

pub increasing_from : (xs : List ℕ) → Ascends xs → IsStrictlyIncreasing xs
increasing_from xs ascends = IsStrictlyIncreasing-from_sorted xs (sorted_from xs ascends)

-- what is below x is below all that x is below
above_chain : (w x : ℕ) (ys : List ℕ) → w < x → Above x ys → Above w ys
above_chain w x [] below above = tt
above_chain w x (y ∷ ys) below above = (omega (arith, above.0), above_chain w x ys below above.1)

above_with : (w : ℕ) (front : List ℕ) (x : ℕ) (back : List ℕ)
    → Above w (front ++ back)
    → w < x
    → Above w (front ++ x ∷ back)
above_with w [] x back above below = (below, above)
above_with w (y ∷ front) x back above below = (above.0, above_with w front x back above.1 below)

abbrev pub Below : ℕ → List ℕ → Type 0
Below x [] = Unit {0}
Below x (y ∷ ys) = (y < x) × Below x ys

pub ascends_with : (front : List ℕ) (x : ℕ) (back : List ℕ)
    → Ascends (front ++ back)
    → Below x front
    → Above x back
    → Ascends (front ++ x ∷ back)
ascends_with [] x back ascends below above = (above, ascends)
ascends_with (y ∷ front) x back ascends below above =
    (above_with y front x back ascends.0 below.0, ascends_with front x back ascends.1 below.1 above)

-- of an ascending list, what stands before a number is below it, and what stands behind it above
above_at : (w : ℕ) (front : List ℕ) (x : ℕ) (back : List ℕ) → Above w (front ++ x ∷ back) → w < x
above_at w [] x back above = above.0
above_at w (y ∷ front) x back above = above_at w front x back above.1

below_front : (front : List ℕ) (x : ℕ) (back : List ℕ) → Ascends (front ++ x ∷ back) → Below x front
below_front [] x back ascends = tt
below_front (y ∷ front) x back ascends = (above_at y front x back ascends.0, below_front front x back ascends.1)

above_back : (front : List ℕ) (x : ℕ) (back : List ℕ) → Ascends (front ++ x ∷ back) → Above x back
above_back [] x back ascends = ascends.0
above_back (y ∷ front) x back ascends = above_back front x back ascends.1

-- the head of the back, put at the end of the front
pub ascends_moved : (front : List ℕ) (x : ℕ) (back : List ℕ)
    → Ascends (front ++ x ∷ back)
    → Ascends ((front ++ x ∷ []) ++ back)
ascends_moved front x back ascends = subst Ascends (sym (append_assoc front (x ∷ []) back)) ascends

pub ascends_merge : (front : List ℕ) (x : ℕ) (xs : List ℕ) (y : ℕ) (ys : List ℕ)
    → x < y
    → Ascends (front ++ x ∷ xs)
    → Ascends (front ++ y ∷ ys)
    → Ascends ((front ++ x ∷ []) ++ (y ∷ ys))
ascends_merge front x xs y ys below left right =
    ascends_moved front x (y ∷ ys)
    (ascends_with front x (y ∷ ys) right (below_front front x xs left) (below, above_chain x y ys below (above_back front y ys right)))

members_above : (x : ℕ) (ys : List ℕ) → ((y : ℕ) → IsMember y ys → x < y) → Above x ys
members_above x [] each = tt
members_above x (y ∷ ys) each = (each y (inl refl), members_above x ys (λ z inside. each z (inr inside)))

above_members : (x : ℕ) (ys : List ℕ) → Above x ys → (y : ℕ) → IsMember y ys → x < y
above_members x [] above z inside = absurd inside
above_members x (y ∷ ys) above z (inl is) = subst (λ w. x < w) (sym is) above.0
above_members x (y ∷ ys) above z (inr later) = above_members x ys above.1 z later

ascends_of : (xs : List ℕ) → IsAscending xs → Ascends xs
ascends_of [] ascending = tt
ascends_of (x ∷ xs) ascending = (members_above x xs ascending.0, ascends_of xs ascending.1)

ascending_of : (xs : List ℕ) → Ascends xs → IsAscending xs
ascending_of [] ascends = tt
ascending_of (x ∷ xs) ascends = (above_members x xs ascends.0, ascending_of xs ascends.1)

pub increasing_of_ascending : (xs : List ℕ) → IsAscending xs → IsStrictlyIncreasing xs
increasing_of_ascending xs ascending = increasing_from xs (ascends_of xs ascending)

pub ascending_of_increasing : (xs : List ℕ) → IsStrictlyIncreasing xs → IsAscending xs
ascending_of_increasing xs increases = ascending_of xs (ascends_from xs increases)
