-- Which parts keep the numbers of their classes, as they are chosen.
--
--   kept_more      == a part that is written for its class is kept for it, and the others stay
--   written_more   == the same of what keeps from a place on, with one state more
--   kept_all       == after all, then larger ones, and then settled ones, these are kept
use Rattle.std.proofs.Common.{ℕ, ◌≡◌, ◌≢◌, ◌+◌, ◌<◌, ◌≤◌, ◌⊎◌, inl, inr, List, length, get_or, set, sym, ap, ◌∙◌, subst, arith}
use Rattle.std.proofs.lemmas.Bool.{cases_eq}
use Rattle.std.proofs.lemmas.List.{get_or-set_same, get_or-set_other}
use Rattle.ml_bisim.specs.Quotient.{class_of}
use Rattle.ml_bisim.specs.private.Rounds.{AreKept, KeepsFrom}

module _ (class states ns : List ℕ) where
  abbrev Keeps : List ℕ → ℕ → ℕ → Type 0
  Keeps keeper k c = KeepsFrom class states ns keeper k c

  abbrev class_at : ℕ → ℕ
  class_at i = class_of class (get_or states i 0)

  pub from_earlier : (keeper : List ℕ) (j k c : ℕ) → j ≤ k → Keeps keeper k c → Keeps keeper j c
  from_earlier keeper j k c le (i, from, low, is, kept) = (i, omega (arith, le, from), low, is, kept)

  pub as_before : (keeper new : List ℕ) (k c : ℕ) → get_or new c 0 ≡ get_or keeper c 0 → Keeps keeper k c → Keeps new k c
  as_before keeper new k c same (i, from, low, is, kept) = (i, from, low, is, same ∙ kept)

  module _ (keeper new : List ℕ) (i k c : ℕ) (from : k ≤ i) (low : i < length states) (of_class : class_at i ≡ c)
      (within : c < length keeper) (written : new ≡ set keeper c (get_or ns i 0)) where
    here : Keeps new k c
    here = (
      i,
      from,
      low,
      of_class,
      ap (λ xs. get_or xs c 0) written ∙ get_or-set_same keeper c (get_or ns i 0) 0 within,
    )

    there : (d : ℕ) → d ≢ c → get_or new d 0 ≡ get_or keeper d 0
    there d other = ap (λ xs. get_or xs d 0) written ∙ get_or-set_other keeper c d (get_or ns i 0) 0 other

    pub kept_more : (d : ℕ) → Keeps keeper k d → Keeps new k d
    kept_more d kept = by_case (cases_eq d c)
      where
        by_case : (d ≡ c) ⊎ (d ≡ c → ⊥) → Keeps new k d
        by_case (inl same) = subst (Keeps new k) (sym same) here
        by_case (inr other) = as_before keeper new k d (there d other) kept

    pub changed_or_not : (old : List ℕ) (d : ℕ) → (get_or keeper d 0 ≡ get_or old d 0) ⊎ Keeps keeper k d
        → (get_or new d 0 ≡ get_or old d 0) ⊎ Keeps new k d
    changed_or_not old d before = by_case (cases_eq d c) before
      where
        by_case : (d ≡ c) ⊎ (d ≡ c → ⊥) → (get_or keeper d 0 ≡ get_or old d 0) ⊎ Keeps keeper k d
            → (get_or new d 0 ≡ get_or old d 0) ⊎ Keeps new k d
        by_case (inl same) b = inr (subst (Keeps new k) (sym same) here)
        by_case (inr other) (inl e) = inl (there d other ∙ e)
        by_case (inr other) (inr kept) = inr (as_before keeper new k d (there d other) kept)

    pub written_more : ((j : ℕ) → k ≤ j → j < i → Keeps keeper k (class_at j))
        → (j : ℕ) → k ≤ j → j < i + 1 → Keeps new k (class_at j)
    written_more before j le under = by_case (cases_eq j i)
      where
        by_case : (j ≡ i) ⊎ (j ≡ i → ⊥) → Keeps new k (class_at j)
        by_case (inl same) = subst (Keeps new k) (sym (ap class_at same ∙ of_class)) here
        by_case (inr other) = kept_more (class_at j) (before j le (omega (arith, under, other)))

  pub kept_all : (first : ℕ) (keeper new : List ℕ)
      → ((i : ℕ) → i < length states → Keeps keeper 0 (class_at i))
      → ((i : ℕ) → first ≤ i → i < length states → Keeps new first (class_at i))
      → ((c : ℕ) → (get_or new c 0 ≡ get_or keeper c 0) ⊎ Keeps new first c)
      → AreKept class states ns new first
  kept_all first keeper new larger settled others = record {
    each = λ i low. each i low (others (class_at i));
    settled = settled;
  }
    where
      each : (i : ℕ) → i < length states → (get_or new (class_at i) 0 ≡ get_or keeper (class_at i) 0) ⊎ Keeps new
          first (class_at i)
          → Keeps new 0 (class_at i)
      each i low (inl same) = as_before keeper new 0 (class_at i) same (larger i low)
      each i low (inr kept) = from_earlier new 0 first (class_at i) (omega arith) kept
