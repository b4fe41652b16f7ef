-- Lists whose entries have keys, ascending by these. (General; it would belong to ml_lists.)
--
--   keyed_below == the key of the first entry is below those of the later ones
--   keyed_same  == two such lists with the same members are one
use Rattle.std.proofs.Common.{ℕ, ◌≡◌, ◌<◌, inl, inr, List, [], ◌∷◌, map, refl, sym, ap, ◌∙◌, arith}
use Rattle.ml_lists.specs.Ascending.{IsAscending}
use Rattle.ml_lists.specs.Member.{IsMember}
use Rattle.ml_lists.proofs.Member.{member-map}

module _ {X : Type 0} (key : X → ℕ) where
  -- the key of the first entry is below those of the later ones
  pub keyed_below : (x : X) (xs : List X) → IsAscending (map key (x ∷ xs)) → (y : X) → IsMember y xs → key x < key y
  keyed_below x xs up y m = up.0 (key y) (member-map key y xs m)

  first_same : (x y : X) (xs ys : List X)
      → IsAscending (map key (x ∷ xs))
      → IsAscending (map key (y ∷ ys))
      → IsMember x (y ∷ ys)
      → IsMember y (x ∷ xs)
      → x ≡ y
  first_same x y xs ys up_x up_y (inl same) there = same
  first_same x y xs ys up_x up_y (inr later) (inl same) = sym same
  first_same x y xs ys up_x up_y (inr later) (inr behind) =
      let one = keyed_below y ys up_y x later in let two = keyed_below x xs up_x y behind in absurd (omega arith)

  -- a later member is a later one of the other list
  still_later : (x y : X) (xs ys : List X)
      → IsAscending (map key (x ∷ xs))
      → x ≡ y
      → (z : X)
      → IsMember z xs
      → IsMember z (y ∷ ys)
      → IsMember z ys
  still_later x y xs ys up same z m (inr later) = later
  still_later x y xs ys up same z m (inl here) =
      let less = keyed_below x xs up z m in
      let equal : key z ≡ key x = ap key (here ∙ sym same) in
      absurd (omega arith)

  -- two such lists with the same members are one
  pub keyed_same : (xs ys : List X)
      → IsAscending (map key xs)
      → IsAscending (map key ys)
      → ((z : X) → IsMember z xs → IsMember z ys)
      → ((z : X) → IsMember z ys → IsMember z xs)
      → xs ≡ ys
  keyed_same [] [] up_x up_y to from = refl
  keyed_same [] (y ∷ ys) up_x up_y to from = absurd (from y (inl refl))
  keyed_same (x ∷ xs) [] up_x up_y to from = absurd (to x (inl refl))
  keyed_same (x ∷ xs) (y ∷ ys) up_x up_y to from =
      let same = first_same x y xs ys up_x up_y (to x (inl refl)) (from y (inl refl)) in
      let rest = keyed_same xs ys up_x.1 up_y.1
      (λ z m. still_later x y xs ys up_x same z m (to z (inr m)))
      (λ z m. still_later y x ys xs up_y (sym same) z m (from z (inr m))) in
      λ i. same i ∷ rest i
