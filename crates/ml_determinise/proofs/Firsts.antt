-- First entries of lists that grow. (General; it would belong to `ml_lists/proofs/FirstEntries`.)
--
--   firsts_of_apart == where nothing stands twice, the first entries are the list
--   firsts_old, firsts_new == those of a list with one entry more
--   firsts_added    == they are what a table has behind an insertion
--   firsts_joined   == those of a list whose front has its first entries alone
--   number_grows    == a value keeps its number where the list grows
use Rattle.std.proofs.Common.{ℕ, suc, ◌≡◌, ◌⊎◌, inl, inr, Bool, true, false, not, List, [], ◌∷◌, ◌++◌, filter}
use Rattle.std.proofs.Common.{refl, sym, ap, ◌∙◌, subst, append_assoc, append-nil}
use Rattle.std.specs.Bool.{Decides}
use Rattle.std.specs.List.{list_any}
use Rattle.std.proofs.lemmas.Bool.{cases_Bool, cond-true, cond-false}
use Rattle.std.proofs.lemmas.List.Elements.{filter-append}
use Rattle.ml_lists.specs.Added.{IsAdded}
use Rattle.ml_lists.specs.Member.{IsMember}
use Rattle.ml_lists.proofs.FirstEntries.{AreApart, firsts, firsts-apart, firsts-member, member-firsts, number}
use Rattle.ml_lists.proofs.Member.{Passing, list_any-member, member-list_any, member_of_get}

module _ {X : Type 0} (eq : X → X → Bool) (tells : (x y : X) → Decides (eq x y) (x ≡ y)) where
  abbrev other : X → X → Bool
  other x y = not (eq y x)

  -- a value is a member, or it isn't
  is_member : (x : X) (xs : List X) → IsMember x xs ⊎ (IsMember x xs → ⊥)
  is_member x xs = by_test (cases_Bool (list_any (eq x) xs))
    where
      found : Passing (eq x) xs → IsMember x xs
      found p = subst (λ y. IsMember y xs) (sym ((tells x p.item).0 p.passes)) p.member

      by_test : (list_any (eq x) xs ≡ true) ⊎ (list_any (eq x) xs ≡ false) → IsMember x xs ⊎ (IsMember x xs → ⊥)
      by_test (inl some) = inl (found (list_any-member (eq x) xs some))
      by_test (inr none) =
          inr (λ m. let some = member-list_any (eq x) x xs m ((tells x x).1 refl) in absurd (cc))

  others_stay : (x : X) (xs : List X) → (IsMember x xs → ⊥) → filter (other x) xs ≡ xs
  others_stay x [] apart = refl
  others_stay x (y ∷ ys) apart = by_test (cases_Bool (eq y x)) (others_stay x ys (λ m. apart (inr m)))
    where
      by_test : (eq y x ≡ true) ⊎ (eq y x ≡ false) → filter (other x) ys ≡ ys → filter (other x) (y ∷ ys) ≡ y ∷ ys
      by_test (inl same) rest = absurd (apart (inl (sym ((tells y x).0 same))))
      by_test (inr differ) rest =
          cond-true (other x y) (y ∷ filter (other x) ys) (filter (other x) ys) (ap not differ) ∙ ap (λ zs. y ∷ zs) rest

  pub firsts_of_apart : (xs : List X) → AreApart xs → firsts eq xs ≡ xs
  firsts_of_apart [] apart = refl
  firsts_of_apart (x ∷ xs) apart =
      ap (λ zs. x ∷ filter (other x) zs) (firsts_of_apart xs apart.1) ∙ ap (λ zs. x ∷ zs) (others_stay x xs apart.0)

  pub firsts_new : (xs : List X) (x : X) → (IsMember x xs → ⊥) → firsts eq (xs ++ x ∷ []) ≡ firsts eq xs ++ x ∷ []
  firsts_new [] x new = refl
  firsts_new (z ∷ zs) x new = by_test (cases_Bool (eq x z)) (firsts_new zs x (λ m. new (inr m)))
    where
      by_test : (eq x z ≡ true) ⊎ (eq x z ≡ false)
          → firsts eq (zs ++ x ∷ []) ≡ firsts eq zs ++ x ∷ []
          → firsts eq ((z ∷ zs) ++ x ∷ []) ≡ firsts eq (z ∷ zs) ++ x ∷ []
      by_test (inl same) rest = absurd (new (inl ((tells x z).0 same)))
      by_test (inr differ) rest =
          ap (λ ys. z ∷ filter (other z) ys) rest
          ∙ ap (λ ys. z ∷ ys) (filter-append (other z) (firsts eq zs) (x ∷ []))
          ∙ ap (λ ys. z ∷ filter (other z) (firsts eq zs) ++ ys) (cond-true (other z x) (x ∷ []) [] (ap not differ))

  pub firsts_old : (xs : List X) (x : X) → IsMember x xs → firsts eq (xs ++ x ∷ []) ≡ firsts eq xs
  firsts_old [] x m = absurd m
  firsts_old (z ∷ zs) x m = by_member (is_member x zs) (cases_Bool (eq x z)) m (firsts_old zs x)
    where
      alone : eq x z ≡ true → filter (other z) (x ∷ []) ≡ []
      alone same = cond-false (other z x) (x ∷ []) [] (ap not same)

      by_member : IsMember x zs ⊎ (IsMember x zs → ⊥)
          → (eq x z ≡ true) ⊎ (eq x z ≡ false)
          → (x ≡ z) ⊎ IsMember x zs
          → (IsMember x zs → firsts eq (zs ++ x ∷ []) ≡ firsts eq zs)
          → firsts eq ((z ∷ zs) ++ x ∷ []) ≡ firsts eq (z ∷ zs)
      by_member (inl later) t m rest = ap (λ ys. z ∷ filter (other z) ys) (rest later)
      by_member (inr new) (inl same) m rest =
          ap (λ ys. z ∷ filter (other z) ys) (firsts_new zs x new)
          ∙ ap (λ ys. z ∷ ys) (filter-append (other z) (firsts eq zs) (x ∷ []))
          ∙ ap (λ ys. z ∷ filter (other z) (firsts eq zs) ++ ys) (alone same)
          ∙ ap (λ ys. z ∷ ys) (append-nil (filter (other z) (firsts eq zs)))
      by_member (inr new) (inr differ) (inl is) rest = let same = (tells x z).1 is in absurd (cc)
      by_member (inr new) (inr differ) (inr later) rest = absurd (new later)

  -- what a table has behind an insertion
  pub firsts_added : (xs hs ks : List X) (x : X) (i : ℕ)
      → hs ≡ firsts eq xs
      → IsAdded hs x ks i
      → ks ≡ firsts eq (xs ++ x ∷ [])
  firsts_added xs hs ks x i are a = by_kind a.grown
    where
      by_kind : (ks ≡ hs) ⊎ ((ks ≡ hs ++ x ∷ []) × ¬ (IsMember x hs)) → ks ≡ firsts eq (xs ++ x ∷ [])
      by_kind (inl old) =
          let m = subst (IsMember x) (old ∙ are) (member_of_get ks i x a.stands) in
          old ∙ are ∙ sym (firsts_old xs x (firsts-member eq x xs m))
      by_kind (inr new) =
          new.0 ∙ ap (λ ys. ys ++ x ∷ []) are
          ∙ sym (firsts_new xs x (λ m. new.1 (subst (IsMember x) (sym are) (member-firsts eq tells x xs m))))

  -- first entries of first entries, with one more
  one_joined : (xs : List X) (x : X) → firsts eq (firsts eq xs ++ x ∷ []) ≡ firsts eq (xs ++ x ∷ [])
  one_joined xs x = by_member (is_member x xs)
    where
      same : firsts eq (firsts eq xs) ≡ firsts eq xs
      same = firsts_of_apart (firsts eq xs) (firsts-apart eq tells xs)

      by_member : IsMember x xs ⊎ (IsMember x xs → ⊥) → firsts eq (firsts eq xs ++ x ∷ []) ≡ firsts eq (xs ++ x ∷ [])
      by_member (inl m) =
          firsts_old (firsts eq xs) x (member-firsts eq tells x xs m) ∙ same ∙ sym (firsts_old xs x m)
      by_member (inr new) =
          firsts_new (firsts eq xs) x (λ m. new (firsts-member eq x xs m))
          ∙ ap (λ ys. ys ++ x ∷ []) same
          ∙ sym (firsts_new xs x new)

  pub firsts_joined : (xs ys : List X) → firsts eq (firsts eq xs ++ ys) ≡ firsts eq (xs ++ ys)
  firsts_joined xs [] =
      ap (firsts eq) (append-nil (firsts eq xs))
      ∙ firsts_of_apart (firsts eq xs) (firsts-apart eq tells xs)
      ∙ ap (firsts eq) (sym (append-nil xs))
  firsts_joined xs (y ∷ ys) =
      ap (firsts eq) (sym (append_assoc (firsts eq xs) (y ∷ []) ys))
      ∙ sym (firsts_joined (firsts eq xs ++ y ∷ []) ys)
      ∙ ap (λ zs. firsts eq (zs ++ ys)) (one_joined xs y)
      ∙ firsts_joined (xs ++ y ∷ []) ys
      ∙ ap (firsts eq) (append_assoc xs (y ∷ []) ys)

  -- a value keeps its number
  pub number_grows : (xs more : List X) (x : X) → IsMember x xs → number eq (xs ++ more) x ≡ number eq xs x
  number_grows [] more x none = absurd none
  number_grows (y ∷ ys) more x m = by_test (cases_Bool (eq x y)) m (number_grows ys more x)
    where
      by_test : (eq x y ≡ true) ⊎ (eq x y ≡ false)
          → (x ≡ y) ⊎ IsMember x ys
          → (IsMember x ys → number eq (ys ++ more) x ≡ number eq ys x)
          → number eq ((y ∷ ys) ++ more) x ≡ number eq (y ∷ ys) x
      by_test (inl same) i later =
          cond-true (eq x y) 0 (suc (number eq (ys ++ more) x)) same
          ∙ sym (cond-true (eq x y) 0 (suc (number eq ys x)) same)
      by_test (inr differ) (inl is) later = let same = (tells x y).1 is in absurd (cc)
      by_test (inr differ) (inr i) later =
          cond-false (eq x y) 0 (suc (number eq (ys ++ more) x)) differ
          ∙ ap suc (later i)
          ∙ sym (cond-false (eq x y) 0 (suc (number eq ys x)) differ)
