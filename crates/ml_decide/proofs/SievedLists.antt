-- The members of a list that have a property, which is decided of each. (General; it would belong to `ml_lists`.)
--
--   SievedList P xs, sieved_list == things with the property P, among them all those of xs
use Rattle.std.proofs.Common.{◌≡◌, ◌⊎◌, List, [], ◌∷◌, inl, inr, sym, subst}
use Rattle.ml_lists.specs.Member.{IsMember}
use Rattle.ml_lists.proofs.Decided.{Decided}

pub record SievedList {X : Type 0} (P : X → Type 0) (xs : List X) : Type 0 where
  pub list : List X
  pub holds : (x : X) → IsMember x list → P x
  pub all : (x : X) → IsMember x xs → P x → IsMember x list

module _ {X : Type 0} (P : X → Type 0) where
  pub sieved_list : (xs : List X) → ((x : X) → Decided (P x)) → SievedList P xs
  sieved_list [] decide = record { list = []; holds = λ x m. absurd m; all = λ x m p. absurd m }
  sieved_list (x ∷ xs) decide = more (decide x) (sieved_list xs decide)
    where
      more : Decided (P x) → SievedList P xs → SievedList P (x ∷ xs)
      more (inl p) k = record { list = x ∷ k.list; holds = holds; all = all }
        where
          holds : (y : X) → (y ≡ x) ⊎ IsMember y k.list → P y
          holds y (inl same) = subst P (sym same) p
          holds y (inr m) = k.holds y m

          all : (y : X) → (y ≡ x) ⊎ IsMember y xs → P y → (y ≡ x) ⊎ IsMember y k.list
          all y (inl same) h = inl same
          all y (inr m) h = inr (k.all y m h)
      more (inr none) k = record { list = k.list; holds = k.holds; all = all }
        where
          all : (y : X) → (y ≡ x) ⊎ IsMember y xs → P y → IsMember y k.list
          all y (inl same) h = absurd (none (subst P same h))
          all y (inr m) h = k.all y m h
