-- How many different numbers stand in a list.
--
--   some_left      == 1, unless the list is empty
--   different_le   == no more than its entries
--   no_fewer, more == a list that has the numbers of another has as many, and more with one that isn't there
use Rattle.std.proofs.Common.{ℕ, ◌<◌, ◌≤◌, inl, inr, nat_eq, List, [], ◌∷◌, length, sym, subst, arith}
use Rattle.std.proofs.lemmas.Bool.Decides.{Decides-eqb}
use Rattle.ml_lists.specs.Member.{IsMember}
use Rattle.ml_lists.proofs.FirstEntries.{AreApart, apart_places, firsts, firsts-apart, firsts-member, member-firsts, none_more}
use Rattle.ml_bisim.specs.private.Rounds.{different}

-- 1, unless the list is empty
abbrev pub some_left : List ℕ → ℕ
some_left [] = 0
some_left (x ∷ xs) = 1

pub different_le : (xs : List ℕ) → different xs ≤ length xs
different_le xs =
    none_more nat_eq Decides-eqb (firsts nat_eq xs) xs (apart_places (firsts nat_eq xs) (firsts-apart nat_eq Decides-eqb xs))
    (λ x m. firsts-member nat_eq x xs m)

module _ (xs ys : List ℕ) (inside : (x : ℕ) → IsMember x xs → IsMember x ys) where
  there : (x : ℕ) → IsMember x (firsts nat_eq xs) → IsMember x (firsts nat_eq ys)
  there x m = member-firsts nat_eq Decides-eqb x ys (inside x (firsts-member nat_eq x xs m))

  pub no_fewer : different xs ≤ different ys
  no_fewer =
      none_more nat_eq Decides-eqb (firsts nat_eq xs) (firsts nat_eq ys)
      (apart_places (firsts nat_eq xs) (firsts-apart nat_eq Decides-eqb xs)) there

  pub more : (y : ℕ) → IsMember y ys → (IsMember y xs → ⊥) → different xs < different ys
  more y in_ys not_in_xs =
      let apart : AreApart (y ∷ firsts nat_eq xs) = (
        (λ m. not_in_xs (firsts-member nat_eq y xs m)),
        firsts-apart nat_eq Decides-eqb xs,
      ) in
      let all = none_more nat_eq Decides-eqb (y ∷ firsts nat_eq xs) (firsts nat_eq ys)
      (apart_places (y ∷ firsts nat_eq xs) apart) listed in
      omega (arith, all)
    where
      listed : (x : ℕ) → IsMember x (y ∷ firsts nat_eq xs) → IsMember x (firsts nat_eq ys)
      listed x (inl same) = subst (λ z. IsMember z (firsts nat_eq ys)) (sym same) (member-firsts nat_eq Decides-eqb y ys in_ys)
      listed x (inr m) = there x m
