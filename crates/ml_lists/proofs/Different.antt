-- Different members of a list are no more than its entries.
--
--   Around x xs        == xs is a list with x between two others
--   around             == a member stands between two others
--   different_within   == a list without repeats is no longer than one that has all its members
use Rattle.std.proofs.Common.{◌≡◌, ◌≤◌, ◌⊎◌, inl, inr, List, [], ◌∷◌, ◌++◌, length, refl, sym, ap, subst, arith, length-append}
use Rattle.ml_lists.specs.Member.{IsMember}
use Rattle.ml_lists.proofs.FirstEntries.{AreApart}
use Rattle.ml_lists.proofs.Member.{member-append, member-append_left, member-append_right}

pub record Around {X : Type 0} (x : X) (xs : List X) : Type 0 where
  pub front : List X
  pub back : List X
  pub is : xs ≡ front ++ x ∷ back

pub around : {X : Type 0} (x : X) (xs : List X) → IsMember x xs → Around x xs
around x [] m = absurd m
around x (y ∷ ys) (inl same) = record { front = []; back = ys; is = ap (λ z. z ∷ ys) (sym same) }
around x (y ∷ ys) (inr m) =
    let i = around x ys m in record { front = y ∷ i.front; back = i.back; is = ap (λ zs. y ∷ zs) i.is }

-- another member stands in one of the two lists
beside : {X : Type 0} (x y : X) (front back : List X)
    → (y ≡ x → ⊥)
    → IsMember y (front ++ x ∷ back)
    → IsMember y (front ++ back)
beside x y front back other m = by_part (member-append y front (x ∷ back) m)
  where
    by_part : IsMember y front ⊎ IsMember y (x ∷ back) → IsMember y (front ++ back)
    by_part (inl before) = member-append_left y front back before
    by_part (inr (inl same)) = absurd (other same)
    by_part (inr (inr behind)) = member-append_right y front back behind

pub different_within : {X : Type 0} (xs ys : List X)
    → AreApart xs
    → ((x : X) → IsMember x xs → IsMember x ys)
    → length xs ≤ length ys
different_within [] ys apart within = omega arith
different_within (x ∷ xs) ys apart within =
    let i = around x ys (within x (inl refl)) in
    let rest = different_within xs (i.front ++ i.back) apart.1
    (λ p m. beside x p i.front i.back (λ same. apart.0 (subst (λ q. IsMember q xs) same m))
    (subst (λ zs. IsMember p zs) i.is (within p (inr m)))) in
    omega (arith, rest, ap length i.is, length-append i.front (x ∷ i.back), length-append i.front i.back)
