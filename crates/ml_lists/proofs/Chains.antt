-- Lists in which each element is above the one before it.
--
--   chain_push, chain_at   == a chain that grows at its end, and an element in its midst
--   chain_sorted           == a chain strictly ascends
--   sorted_chain           == what strictly ascends is a chain
--   last_is                == the last element is the one at the last place
--   range_ascends          == what is made of the numbers in turn strictly ascends, where it ascends with them
use Rattle.std.proofs.Common.{◌≡◌, ℕ, zero, suc, ◌+◌, ◌-◌, ◌<◌, List, [], ◌∷◌, ◌++◌, Option, None, Some, length, map, slice_get, Ordering, refl, ap, ◌∙◌, arith}
use Rattle.std.specs.Cmp.{IsTotalOrder}
use Rattle.std.specs.List.{AllByRecursion, range_with_len}
use Rattle.std.specs.List.Sorted.{IsStrictlySortedBy}
use Rattle.std.specs.declared.cmp.Ordering.TheVariants.{Less}
use Rattle.ml_lists.specs.Last.{last_of}
use Rattle.ml_lists.specs.Chains.{Above, Chain}

pub last_push : {K : Type 0} (before : Option K) (xs : List K) (y : K) → last_of before (xs ++ y ∷ []) ≡ Some y
last_push before [] y = refl
last_push before (x ∷ xs) y = last_push (Some x) xs y

get_last : {K : Type 0} (x : K) (xs : List K) → last_of (Some x) xs ≡ slice_get (x ∷ xs) (length xs)
get_last x [] = refl
get_last x (y ∷ ys) = get_last y ys

pub last_is : {K : Type 0} (xs : List K) → last_of None xs ≡ slice_get xs (length xs - 1)
last_is [] = refl
last_is (x ∷ xs) = let same : length xs ≡ length (x ∷ xs) - 1 = omega arith in get_last x xs ∙ ap (slice_get (x ∷ xs)) same

module _ {K : Type 0} (R : K → K → Ordering) where
  pub chain_push : (before : Option K) (xs : List K) (y : K) → Chain R before xs → Above R (last_of before xs) y
      → Chain R before (xs ++ y ∷ [])
  chain_push before [] y chain above = (above, tt)
  chain_push before (x ∷ xs) y chain above = (chain.0, chain_push (Some x) xs y chain.1 above)

  pub chain_at : (before : Option K) (xs : List K) (y : K) (ys : List K)
      → Chain R before (xs ++ y ∷ ys)
      → Above R (last_of before xs) y
  chain_at before [] y ys chain = chain.0
  chain_at before (x ∷ xs) y ys chain = chain_at (Some x) xs y ys chain.1

  above_all : IsTotalOrder R → (b x : K) (xs : List K) → R b x ≡ Less → AllByRecursion (λ y. R x y ≡ Less) xs
      → AllByRecursion (λ y. R b y ≡ Less) xs
  above_all order b x [] below all = tt
  above_all order b x (y ∷ ys) below all = (order.trans b x y below all.0, above_all order b x ys below all.1)

  behind_all : IsTotalOrder R
      → (b : K) (xs : List K)
      → Chain R (Some b) xs
      → IsStrictlySortedBy R xs
      → AllByRecursion (λ y. R b y ≡ Less) xs
  unfolding IsStrictlySortedBy
  behind_all order b [] chain ascends = tt
  behind_all order b (x ∷ xs) chain ascends = (chain.0, above_all order b x xs chain.0 ascends.0)

  pub chain_sorted : IsTotalOrder R → (before : Option K) (xs : List K) → Chain R before xs → IsStrictlySortedBy R xs
  unfolding IsStrictlySortedBy
  chain_sorted order before [] chain = tt
  chain_sorted order before (x ∷ xs) chain =
      let rest = chain_sorted order (Some x) xs chain.1 in (behind_all order x xs chain.1 rest, rest)

  pub sorted_behind : (b : K) (xs : List K)
      → AllByRecursion (λ y. R b y ≡ Less) xs
      → IsStrictlySortedBy R xs
      → Chain R (Some b) xs
  unfolding IsStrictlySortedBy
  sorted_behind b [] all ascends = tt
  sorted_behind b (x ∷ xs) all ascends = (all.0, sorted_behind x xs ascends.0 ascends.1)

  pub sorted_chain : (xs : List K) → IsStrictlySortedBy R xs → Chain R None xs
  unfolding IsStrictlySortedBy
  sorted_chain [] ascends = tt
  sorted_chain (x ∷ xs) ascends = (tt, sorted_behind x xs ascends.0 ascends.1)

  module _ (f : ℕ → K) (rises : (a b : ℕ) → a < b → R (f a) (f b) ≡ Less) where
    above_range : (a b n : ℕ) → a < b → AllByRecursion (λ x. R (f a) x ≡ Less) (map f (range_with_len b n))
    above_range a b zero below = tt
    above_range a b (suc n) below = (rises a b below, above_range a (b + 1) n (omega (arith, below)))

    pub range_ascends : (a n : ℕ) → IsStrictlySortedBy R (map f (range_with_len a n))
    unfolding IsStrictlySortedBy
    range_ascends a zero = tt
    range_ascends a (suc n) = (above_range a (a + 1) n (omega arith), range_ascends (a + 1) n)
