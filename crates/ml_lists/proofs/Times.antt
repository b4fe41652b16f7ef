-- How often a number stands in a list, and lists without repeats.
--
-- Joined lists add up, so what stands once at most is said by linear arithmetic.
--
--   times-append               == joined lists add up
--   times-member, member-times == a number stands in a list where it is a member
--   times-apart, apart-times   == a list has no repeats where each number stands in it once at most
--   times-map                  == images that are apart
use Rattle.std.proofs.Common.{ℕ, ◌≡◌, ◌+◌, ◌≤◌, ◌⊎◌, inl, inr, arith, eqb, List, [], ◌∷◌, ◌++◌, map, refl, sym, subst}
use Rattle.std.proofs.lemmas.Bool.{cases_eq, cond-true, cond-false, eq-eqb, ne_eqb}
use Rattle.ml_lists.specs.Member.{IsMember}
use Rattle.ml_lists.specs.Times.{once_for, times, IsApart}
use Rattle.ml_lists.proofs.Member.{Image, member-map_from}

-- an entry counts once where it is the number
pub hit : (x y : ℕ) → x ≡ y → once_for y x ≡ 1
hit x y e = cond-true (eqb x y) 1 0 (eq-eqb x y e)

-- and not at all where it is another
pub miss : (x y : ℕ) → (x ≡ y → ⊥) → once_for y x ≡ 0
miss x y ne = cond-false (eqb x y) 1 0 (ne_eqb x y ne)

-- joined lists add up
pub times-append : (y : ℕ) (xs ys : List ℕ) → times y (xs ++ ys) ≡ times y xs + times y ys
times-append y [] ys = omega arith
times-append y (x ∷ xs) ys = let e = times-append y xs ys in omega arith

-- a member stands in the list
pub times-member : (y : ℕ) (xs : List ℕ) → IsMember y xs → 1 ≤ times y xs
times-member y [] m = absurd m
times-member y (x ∷ xs) (inl same) = omega (arith, hit x y (sym same))
times-member y (x ∷ xs) (inr m) = let e = times-member y xs m in omega arith

-- what stands in the list is a member
pub member-times : (y : ℕ) (xs : List ℕ) → 1 ≤ times y xs → IsMember y xs
member-times y [] low = absurd (omega arith)
member-times y (x ∷ xs) low = by_case (cases_eq x y) (member-times y xs)
  where
    by_case : (x ≡ y) ⊎ (x ≡ y → ⊥) → (1 ≤ times y xs → IsMember y xs) → IsMember y (x ∷ xs)
    by_case (inl same) rest = inl (sym same)
    by_case (inr other) rest = inr (rest (omega (arith, low, miss x y other)))

-- what is no member does not stand in the list
pub times-no_member : (y : ℕ) (xs : List ℕ) → ¬ (IsMember y xs) → times y xs ≡ 0
times-no_member y xs out = by_case (cases_eq (times y xs) 0)
  where
    by_case : (times y xs ≡ 0) ⊎ (times y xs ≡ 0 → ⊥) → times y xs ≡ 0
    by_case (inl e) = e
    by_case (inr ne) = absurd (out (member-times y xs (omega arith)))

-- each number stands once at most in a list without repeats
pub apart-times : (y : ℕ) (xs : List ℕ) → IsApart xs → times y xs ≤ 1
apart-times y [] a = omega arith
apart-times y (x ∷ xs) a = by_case (cases_eq x y) (apart-times y xs a.1)
  where
    by_case : (x ≡ y) ⊎ (x ≡ y → ⊥) → times y xs ≤ 1 → times y (x ∷ xs) ≤ 1
    by_case (inl same) rest = omega (
      arith,
      hit x y same,
      times-no_member y xs (subst (λ v. ¬ (IsMember v xs)) same a.0),
    )
    by_case (inr other) rest = omega (arith, rest, miss x y other)

-- and a list in which each number stands once at most has none
pub times-apart : (xs : List ℕ) → ((y : ℕ) → times y xs ≤ 1) → IsApart xs
times-apart [] once = tt
times-apart (x ∷ xs) once = (
  λ m. let first = times-member x xs m in let all = once x in absurd (omega (arith, hit x x refl)),
  times-apart xs (λ y. let all = once y in omega arith),
)

-- images of a list without repeats are apart, where no two have one image
pub times-map : (f : ℕ → ℕ) (xs : List ℕ)
    → ((y z : ℕ) → IsMember y xs → IsMember z xs → f y ≡ f z → y ≡ z)
    → IsApart xs
    → IsApart (map f xs)
times-map f [] one a = tt
times-map f (x ∷ xs) one a = (
  λ m. from_image (member-map_from f (f x) xs m),
  times-map f xs (λ y z my mz e. one y z (inr my) (inr mz) e) a.1,
)
  where
    from_image : Image f (f x) xs → ⊥
    from_image i = a.0 (subst (λ v. IsMember v xs) (sym (one x i.from (inl refl) (inr i.member) i.holds)) i.member)

-- the parts of a list without repeats have none
pub apart-left : (xs ys : List ℕ) → IsApart (xs ++ ys) → IsApart xs
apart-left xs ys a = times-apart xs (λ y. omega (arith, apart-times y (xs ++ ys) a, times-append y xs ys))

pub apart-right : (xs ys : List ℕ) → IsApart (xs ++ ys) → IsApart ys
apart-right xs ys a = times-apart ys (λ y. omega (arith, apart-times y (xs ++ ys) a, times-append y xs ys))

-- and no number in common
pub apart-both : (xs ys : List ℕ) → IsApart (xs ++ ys) → (y : ℕ) → IsMember y xs → IsMember y ys → ⊥
apart-both xs ys a y mx my = omega (
  arith,
  apart-times y (xs ++ ys) a,
  times-append y xs ys,
  times-member y xs mx,
  times-member y ys my,
)
