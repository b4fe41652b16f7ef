-- Walks down a list, and what they have told so far.
--
--   no_item                                   == what is read where no item stands
--   NoneBefore, none_more, none_at_all        == a search that has found nothing yet, one entry on, and at its end
--   entry_member                              == what is read at a place is a member
--   AllBefore, all_more, all_found, one_fails == a test of all entries that has passed so far, and one that fails
--   KeptBefore, kept_more, kept_same, kept_all == the entries that are kept so far, one entry on, and at the end
use Rattle.std.proofs.Common.{◌≡◌, ◌↔◌, ℕ, ◌+◌, ◌<◌, ◌≤◌, ◌⊎◌, inl, inr, Bool, true, false, None, List, [], ◌∷◌, ◌++◌, length, get_or, take, All, IsTrue, refl, sym, ◌∙◌, subst}
use Rattle.std.proofs.lemmas.Bool.{true≢false}
use Rattle.std.proofs.lemmas.List.{take_all, take_more}
use Rattle.ml_lists.specs.Member.{IsMember}
use Rattle.ml_lists.proofs.Member.{All-member, place-member, member-append, member-append_left, member-append_right}
use Rattle.ml_refutation.specs.declared.refutation.Item.{Item}
use Rattle.ml_lists.proofs.Members.{All-more_read, All-read}

-- what is read where no item stands
abbrev pub no_item : Item
no_item = record { node = 0; odd = None; stack = 0 }

-- ---- a search down a list

module _ {X : Type 0} (P : X → Type 0) (xs : List X) where
  -- no entry before place i has the property
  abbrev pub NoneBefore : ℕ → Type 0
  NoneBefore i = All (λ x. ¬ (P x)) (take i xs)

  pub none_more : (i : ℕ) (x : X) (found : Bool) → i < length xs → x ≡ get_or xs i x → (IsTrue found ↔ P x)
      → found ≡ false → NoneBefore i → NoneBefore (i + 1)
  none_more i x found low is told not before =
      All-more_read (λ x. ¬ (P x)) xs i x low is (λ p. true≢false (sym (told.1 p) ∙ not)) before

  pub none_at_all : (i : ℕ) → length xs ≤ i → NoneBefore i → (x : X) → IsMember x xs → P x → ⊥
  none_at_all i past before x member p =
      All-member (λ x. ¬ (P x)) xs (All-read (λ x. ¬ (P x)) xs i past before) x member p

  pub entry_member : (i : ℕ) (x : X) → i < length xs → x ≡ get_or xs i x → IsMember x xs
  entry_member i x low is = subst (λ y. IsMember y xs) (sym is) (place-member xs i x low)

-- ---- a test of all entries of a list

module _ {X : Type 0} (P : X → Type 0) (xs : List X) where
  -- each entry before place i has the property
  abbrev pub AllBefore : ℕ → Type 0
  AllBefore i = All P (take i xs)

  pub all_more : (i : ℕ) (x : X) (found : Bool)
      → i < length xs
      → x ≡ get_or xs i x
      → (IsTrue found ↔ P x)
      → found ≡ true
      → AllBefore i
      → AllBefore (i + 1)
  all_more i x found low is told holds before = All-more_read P xs i x low is (told.0 holds) before

  pub all_found : (i : ℕ) → length xs ≤ i → AllBefore i → IsTrue true ↔ All P xs
  all_found i past before = ((λ h. All-read P xs i past before), (λ all. refl))

  pub one_fails : (i : ℕ) (x : X) (found : Bool)
      → i < length xs
      → x ≡ get_or xs i x
      → (IsTrue found ↔ P x)
      → found ≡ false
      → IsTrue false ↔ All P xs
  one_fails i x found low is told not = (
    λ h. absurd (true≢false (sym h)),
    λ all. sym not ∙ told.1 (subst P (sym is) (all i x low)),
  )

-- ---- the entries of a list that are kept

module _ {X : Type 0} (Q : X → Type 0) (xs : List X) where
  -- these are the entries before place i that are kept
  abbrev pub KeptBefore : ℕ → List X → Type 0
  KeptBefore i kept = (x : X) → IsMember x kept ↔ (IsMember x (take i xs) × Q x)

  -- one entry more, which is kept, or isn't
  pub kept_more : (i : ℕ) (x : X) (kept more : List X) → i < length xs → x ≡ get_or xs i x → Q x
      → more ≡ kept ++ x ∷ [] → KeptBefore i kept → KeptBefore (i + 1) more
  kept_more i x kept more low is holds pushed before y = (
    λ h. there (member-append y kept (x ∷ []) (subst (IsMember y) pushed h)),
    λ h. subst (IsMember y) (sym pushed)
        (back (member-append y (take i xs) (get_or xs i x ∷ []) (subst (IsMember y) (take_more xs i x low) h.0)) h.1),
  )
    where
      there : IsMember y kept ⊎ IsMember y (x ∷ []) → IsMember y (take (i + 1) xs) × Q y
      there (inl old) =
          let b = (before y).0 old in
          (subst (IsMember y) (sym (take_more xs i x low)) (member-append_left y (take i xs) (get_or xs i x ∷ []) b.0), b.1)
      there (inr (inl e)) = (
        subst (IsMember y) (sym (take_more xs i x low))
            (member-append_right y (take i xs) (get_or xs i x ∷ []) (inl (e ∙ is))),
        subst Q (sym e) holds,
      )
      there (inr (inr none)) = absurd none

      back : IsMember y (take i xs) ⊎ IsMember y (get_or xs i x ∷ []) → Q y → IsMember y (kept ++ x ∷ [])
      back (inl old) q = member-append_left y kept (x ∷ []) ((before y).1 (old, q))
      back (inr (inl e)) q = member-append_right y kept (x ∷ []) (inl (e ∙ sym is))
      back (inr (inr none)) q = absurd none

  pub kept_same : (i : ℕ) (x : X) (kept : List X) → i < length xs → x ≡ get_or xs i x → (Q x → ⊥)
      → KeptBefore i kept → KeptBefore (i + 1) kept
  kept_same i x kept low is fails before y =
      (there, λ h. back h.1 (member-append y (take i xs) (get_or xs i x ∷ []) (subst (IsMember y) (take_more xs i x low) h.0)))
    where
      there : IsMember y kept → IsMember y (take (i + 1) xs) × Q y
      there old =
          let b = (before y).0 old in
          (subst (IsMember y) (sym (take_more xs i x low)) (member-append_left y (take i xs) (get_or xs i x ∷ []) b.0), b.1)

      back : Q y → IsMember y (take i xs) ⊎ IsMember y (get_or xs i x ∷ []) → IsMember y kept
      back q (inl old) = (before y).1 (old, q)
      back q (inr (inl e)) = absurd (fails (subst Q (e ∙ sym is) q))
      back q (inr (inr none)) = absurd none

  pub kept_all : (i : ℕ) (kept : List X) → length xs ≤ i → KeptBefore i kept
      → (x : X) → IsMember x kept ↔ (IsMember x xs × Q x)
  kept_all i kept past before x = subst (λ ys. IsMember x kept ↔ (IsMember x ys × Q x)) (take_all i xs past) (before x)
