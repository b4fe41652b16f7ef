-- Each list has one with the same entries that strictly ascends.
--
--   Sorted xs, sorted        == such a list
use Rattle.std.proofs.Common.{◌≡◌, List, [], ◌∷◌, Ordering, inl, inr, ◌⊎◌, refl, sym, ap, ◌∙◌, subst}
use Rattle.std.specs.Cmp.{IsTotalOrder}
use Rattle.std.specs.List.{AllByRecursion}
use Rattle.std.specs.List.Sorted.{IsStrictlySortedBy}
use Rattle.std.specs.Ordering.{ordering_reverse}
use Rattle.std.specs.declared.cmp.Ordering.TheVariants.{Less, Equal, Greater}
use Rattle.ml_lists.specs.Member.{IsMember}

module _ {K : Type 0} (R : K → K → Ordering) where
  pub record Sorted (xs : List K) : Type 0 where
    pub list : List K
    pub ascends : IsStrictlySortedBy R list
    pub inside : (x : K) → IsMember x list → IsMember x xs
    pub all : (x : K) → IsMember x xs → IsMember x list

  module _ (order : IsTotalOrder R) (exact : (x y : K) → R x y ≡ Equal → x ≡ y) where
    -- a list with x among its entries, below whatever x and the old ones are above of
    record With (x : K) (ys : List K) : Type 0 where
      pub list : List K
      pub ascends : IsStrictlySortedBy R list
      pub inside : (z : K) → IsMember z list → (z ≡ x) ⊎ IsMember z ys
      pub has : IsMember x list
      pub all : (z : K) → IsMember z ys → IsMember z list

    all_from : (y : K) (zs : List K) → ((z : K) → IsMember z zs → R y z ≡ Less) → AllByRecursion (λ z. R y z ≡ Less) zs
    all_from y [] above = tt
    all_from y (z ∷ zs) above = (above z (inl refl), all_from y zs (λ u m. above u (inr m)))

    from_all : (y : K) (zs : List K) → AllByRecursion (λ z. R y z ≡ Less) zs → (z : K) → IsMember z zs → R y z ≡ Less
    from_all y [] all z m = absurd m
    from_all y (u ∷ zs) all z (inl same) = subst (λ v. R y v ≡ Less) (sym same) all.0
    from_all y (u ∷ zs) all z (inr m) = from_all y zs all.1 z m

    put : (x : K) (ys : List K) → IsStrictlySortedBy R ys → With x ys
    unfolding IsStrictlySortedBy
    put x [] up = record {
      list = x ∷ [];
      ascends = (tt, tt);
      inside = λ z m. m;
      has = inl refl;
      all = λ z m. absurd m;
    }
    put x (y ∷ ys) up = by_order (R x y) refl (put x ys up.1)
      where
        above : R x y ≡ Less → (z : K) → (z ≡ y) ⊎ IsMember z ys → R x z ≡ Less
        above less z (inl same) = subst (λ v. R x v ≡ Less) (sym same) less
        above less z (inr m) = order.trans x y z less (from_all y ys up.0 z m)

        by_order : (o : Ordering) → R x y ≡ o → With x ys → With x (y ∷ ys)
        by_order Less less rest = record {
          list = x ∷ y ∷ ys;
          ascends = (all_from x (y ∷ ys) (above less), up);
          inside = λ z m. m;
          has = inl refl;
          all = λ z m. inr m;
        }
        by_order Equal tied rest = record {
          list = y ∷ ys;
          ascends = up;
          inside = λ z m. inr m;
          has = inl (exact x y tied);
          all = λ z m. m;
        }
        by_order Greater greater rest = record {
          list = y ∷ rest.list;
          ascends = (all_from y rest.list below, rest.ascends);
          inside = inside;
          has = inr rest.has;
          all = all;
        }
          where
            turned : R y x ≡ Less
            turned = order.antisymm y x ∙ ap ordering_reverse greater

            below_one : (z : K) → (z ≡ x) ⊎ IsMember z ys → R y z ≡ Less
            below_one z (inl same) = subst (λ v. R y v ≡ Less) (sym same) turned
            below_one z (inr m) = from_all y ys up.0 z m

            below : (z : K) → IsMember z rest.list → R y z ≡ Less
            below z m = below_one z (rest.inside z m)

            swapped : (z : K) → (z ≡ x) ⊎ IsMember z ys → (z ≡ x) ⊎ ((z ≡ y) ⊎ IsMember z ys)
            swapped z (inl same) = inl same
            swapped z (inr m) = inr (inr m)

            inside : (z : K) → (z ≡ y) ⊎ IsMember z rest.list → (z ≡ x) ⊎ ((z ≡ y) ⊎ IsMember z ys)
            inside z (inl same) = inr (inl same)
            inside z (inr m) = swapped z (rest.inside z m)

            all : (z : K) → (z ≡ y) ⊎ IsMember z ys → (z ≡ y) ⊎ IsMember z rest.list
            all z (inl same) = inl same
            all z (inr m) = inr (rest.all z m)

    pub sorted : (xs : List K) → Sorted xs
    unfolding IsStrictlySortedBy
    sorted [] = record { list = []; ascends = tt; inside = λ x m. m; all = λ x m. m }
    sorted (x ∷ xs) = more (sorted xs)
      where
        more : Sorted xs → Sorted (x ∷ xs)
        more s = of_with (put x s.list s.ascends)
          where
            of_with : With x s.list → Sorted (x ∷ xs)
            of_with w = record { list = w.list; ascends = w.ascends; inside = inside; all = all }
              where
                old : (z : K) → (z ≡ x) ⊎ IsMember z s.list → (z ≡ x) ⊎ IsMember z xs
                old z (inl same) = inl same
                old z (inr m) = inr (s.inside z m)

                inside : (z : K) → IsMember z w.list → (z ≡ x) ⊎ IsMember z xs
                inside z m = old z (w.inside z m)

                all : (z : K) → (z ≡ x) ⊎ IsMember z xs → IsMember z w.list
                all z (inl same) = subst (λ v. IsMember v w.list) (sym same) w.has
                all z (inr m) = w.all z (s.all z m)
