-- Lists of numbers that std has sorted.
--
--   times-permuted   == a list in another order has each number as often
--   apart-permuted   == so numbers that stand apart do so in another order
--   ascending_by     == keys that don't fall and stand apart ascend
--   sorted_once      == a list that was sorted, and then left without repeats, is its members in ascending order
use Rattle.std.proofs.Common.{ℕ, suc, ◌≡◌, ◌+◌, ◌<◌, ◌≤◌, List, [], ◌∷◌, eqb, map, get_or, refl, sym, ap, ◌∙◌, subst, arith}
use Rattle.std.specs.List.{sum_by, dedup}
use Rattle.std.specs.List.Sorted.{IsPermutation, IsNonDecreasingBy, IsSorted}
use Rattle.std.specs.Ordering.{nat_cmp}
use Rattle.std.proofs.lemmas.List.Kept.{Contains-dedup_nat, Contains-from_dedup}
use Rattle.std.proofs.lemmas.List.Sorted.{Contains-permutation, IsPermutation-sym, sum_by-IsPermutation}
use Rattle.std.proofs.lemmas.List.Sums.{sum_by-cons}
use Rattle.std.proofs.lemmas.Map.Keys.{IsStrictlyIncreasing-dedup}
use Rattle.ml_lists.specs.Ascending.{IsAscending, ascending}
use Rattle.ml_lists.specs.Member.{IsMember}
use Rattle.ml_lists.specs.Times.{IsApart, once_for, times}
use Rattle.ml_lists.proofs.Ascending.{ascending_same, ascending-is, member-ascending, ascending-member}
use Rattle.ml_lists.proofs.Increasing.{ascending_of_increasing}
use Rattle.ml_lists.proofs.Member.{Image, Place, member-map_from, member-place}
use Rattle.ml_lists.proofs.Members.{member_of_contains, contains_of_member}
use Rattle.ml_lists.proofs.Times.{apart-times, times-apart}

times-sum : (y : ℕ) (xs : List ℕ) → times y xs ≡ sum_by (once_for y) xs
times-sum y [] = refl
times-sum y (x ∷ xs) = ap (λ n. once_for y x + n) (times-sum y xs) ∙ sym (sum_by-cons (once_for y) x xs)

pub times-permuted : (y : ℕ) (xs ys : List ℕ) → IsPermutation xs ys → times y ys ≡ times y xs
times-permuted y xs ys same =
    times-sum y ys ∙ sum_by-IsPermutation (once_for y) xs ys same ∙ sym (times-sum y xs)

pub apart-permuted : (xs ys : List ℕ) → IsPermutation xs ys → IsApart xs → IsApart ys
apart-permuted xs ys same apart =
    times-apart ys (λ y. omega (arith, apart-times y xs apart, times-permuted y xs ys same))

pub ascending_by : {X : Type 0} (key : X → ℕ) (xs : List X)
    → IsNonDecreasingBy key xs
    → IsApart (map key xs)
    → IsAscending (map key xs)
ascending_by key [] rise apart = tt
ascending_by {X} key (x ∷ xs) rise apart = (
  λ y m. from_image y m (member-map_from key y xs m),
  ascending_by key xs (λ i j d le low. rise (suc i) (suc j) d (omega arith) (omega arith)) apart.1,
)
  where
    from_place : (y : ℕ) → IsMember y (map key xs) → (v : X) → y ≡ key v → Place v xs → key x < y
    from_place y m v is p =
        let le : key x ≤ key (get_or xs p.place v) =
        rise 0 (suc p.place) v (omega arith) (let low = p.below in omega arith) in
        let here : key (get_or xs p.place v) ≡ y = ap key (p.holds v) ∙ sym is in
        let ne : key x ≡ y → ⊥ = λ e. apart.0 (subst (λ n. IsMember n (map key xs)) (sym e) m) in
        omega arith

    from_image : (y : ℕ) → IsMember y (map key xs) → Image key y xs → key x < y
    from_image y m j = from_place y m j.from j.holds (member-place j.from xs j.member)

pub sorted_once : (xs ys : List ℕ) → IsPermutation xs ys → IsSorted nat_cmp ys → dedup eqb ys ≡ ascending xs
sorted_once xs ys same sorted =
    ascending_same (dedup eqb ys) (ascending xs)
    (ascending_of_increasing (dedup eqb ys) (IsStrictlyIncreasing-dedup ys sorted)) (ascending-is xs)
    (λ v m. member-ascending v xs
    (member_of_contains v xs (Contains-permutation ys xs v (IsPermutation-sym xs ys same)
    (Contains-from_dedup eqb ys v (contains_of_member v (dedup eqb ys) m)))))
    (λ v m. member_of_contains v (dedup eqb ys)
    (Contains-dedup_nat ys v (Contains-permutation xs ys v same
    (contains_of_member v xs (ascending-member v xs m)))))
