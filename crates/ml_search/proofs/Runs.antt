-- Entries of one key stand together in a list whose order looks at the key first; so few have it, where those that are far
-- apart don't have the same.
--
--   between       == between two entries of one key all have it
--   few_together  == where entries that pass a test stand together, and none so many places apart both pass, few pass
use Rattle.std.proofs.Common.{ℕ, zero, suc, ◌≡◌, ◌+◌, ◌-◌, ◌<◌, ◌≤◌, ◌⊎◌, inl, inr, Bool, true, false, List, length, get_or, take, refl, sym, ap, subst, arith}
use Rattle.std.specs.Cmp.{IsTotalOrder}
use Rattle.std.specs.List.{filter}
use Rattle.std.specs.List.Sorted.{IsStrictlySortedBy}
use Rattle.std.specs.Ordering.{is_gt, ordering_reverse}
use Rattle.std.specs.declared.cmp.Ordering.{Ordering}
use Rattle.std.specs.declared.cmp.Ordering.TheVariants.{Less, Equal, Greater}
use Rattle.std.proofs.lemmas.Bool.{cases_Bool, cases_lt, cond-true, cond-false}
use Rattle.std.proofs.lemmas.Cmp.{tied_itself}
use Rattle.std.proofs.lemmas.List.Filters.{length-filter_more}
use Rattle.std.proofs.lemmas.Map.Keys.{Less-from_sorted}

module _ {K X : Type 0} (R : K → K → Ordering) (total : IsTotalOrder R) (exact : (x y : K) → R x y ≡ Equal → x ≡ y)
    (key : X → K) (C : X → X → Ordering)
    (first : (x y : X) → C x y ≡ Less → is_gt (R (key x) (key y)) ≡ false) where
  level : (r s : Ordering) → r ≡ ordering_reverse s → is_gt r ≡ false → is_gt s ≡ false → r ≡ Equal
  level Less Less turned up down = cc
  level Less Equal turned up down = cc
  level Less Greater turned up down = absurd (cc)
  level Equal s turned up down = refl
  level Greater s turned up down = absurd (cc)

  module _ (xs : List X) (ascends : IsStrictlySortedBy C xs) (d : X) where
    rises : (i k : ℕ) → i ≤ k → k < length xs → is_gt (R (key (get_or xs i d)) (key (get_or xs k d))) ≡ false
    rises i k up low = by_place (cases_lt i k)
      where
        by_place : (i < k) ⊎ (k ≤ i) → is_gt (R (key (get_or xs i d)) (key (get_or xs k d))) ≡ false
        by_place (inl less) =
            first (get_or xs i d) (get_or xs k d) (Less-from_sorted C xs i k d ascends less low)
        by_place (inr more) =
            let same : i ≡ k = omega arith in
            subst (λ j. is_gt (R (key (get_or xs i d)) (key (get_or xs j d))) ≡ false) same
            (ap is_gt (tied_itself total (key (get_or xs i d))))

    -- between two entries of one key all have it
    pub between : (i k j : ℕ)
        → i ≤ k
        → k ≤ j
        → j < length xs
        → key (get_or xs i d) ≡ key (get_or xs j d)
        → key (get_or xs i d) ≡ key (get_or xs k d)
    between i k j above below low same =
        let up = rises i k above (omega arith) in
        let down = subst (λ x. is_gt (R (key (get_or xs k d)) x) ≡ false) (sym same) (rises k j below low) in
        exact (key (get_or xs i d)) (key (get_or xs k d))
        (level (R (key (get_or xs i d)) (key (get_or xs k d))) (R (key (get_or xs k d)) (key (get_or xs i d)))
        (total.antisymm (key (get_or xs i d)) (key (get_or xs k d))) up down)

module _ {X : Type 0} (test : X → Bool) (xs : List X) (d : X) where
  -- how many of the first entries pass
  abbrev passed : ℕ → ℕ
  passed n = length (filter test (take n xs))

  one_more : (n : ℕ) → n < length xs → (test (get_or xs n d) ≡ true) ⊎ (test (get_or xs n d) ≡ false)
      → passed (n + 1) ≤ passed n + 1
  one_more n low (inl t) = omega (arith, length-filter_more test xs n d low, cond-true {A = ℕ} (test (get_or xs n d)) 1 0 t)
  one_more n low (inr f) = omega (arith, length-filter_more test xs n d low, cond-false {A = ℕ} (test (get_or xs n d)) 1 0 f)

  grows : (i k : ℕ) → i + k ≤ length xs → passed (i + k) ≤ passed i + k
  grows i zero low = let e : i + 0 ≡ i = omega arith in let same = ap passed e in omega arith
  grows i (suc k) low =
      let e : i + suc k ≡ i + k + 1 = omega arith in
      let same = ap passed e in
      omega (arith, grows i k (omega arith), one_more (i + k) (omega arith) (cases_Bool (test (get_or xs (i + k) d))))

  none : (i : ℕ) → i ≤ length xs → ((k : ℕ) → k < i → test (get_or xs k d) ≡ false) → passed i ≡ 0
  none zero low fails = refl
  none (suc i) low fails =
      let e : suc i ≡ i + 1 = omega arith in
      let same = ap passed e in
      omega (
        arith,
        none i (omega arith) (λ k less. fails k (omega arith)),
        length-filter_more test xs i d (omega arith),
        cond-false {A = ℕ} (test (get_or xs i d)) 1 0 (fails i (omega arith)),
      )

  -- where entries that pass a test stand together, and none so many places apart both pass, few pass
  pub few_together : (many : ℕ)
      → ((i k j : ℕ)
      → i ≤ k
      → k ≤ j
      → j < length xs
      → test (get_or xs i d) ≡ true
      → test (get_or xs j d) ≡ true
      → test (get_or xs k d) ≡ true)
      → ((i : ℕ) → i + many < length xs → test (get_or xs i d) ≡ true → test (get_or xs (i + many) d) ≡ true → ⊥)
      → (n : ℕ)
      → n ≤ length xs
      → passed n ≤ many
  few_together many together apart zero low = omega arith
  few_together many together apart (suc n) low =
      by_test (cases_Bool (test (get_or xs n d))) (few_together many together apart n (omega arith))
    where
      same : passed (suc n) ≡ passed (n + 1)
      same = let e : suc n ≡ n + 1 = omega arith in ap passed e

      fails : test (get_or xs n d) ≡ true → many ≤ n → (k : ℕ) → k < suc n - many
          → (test (get_or xs k d) ≡ true) ⊎ (test (get_or xs k d) ≡ false) → test (get_or xs k d) ≡ false
      fails t within k less (inr f) = f
      fails t within k less (inl passes) =
          let at : n - many + many ≡ n = omega arith in
          absurd
          (apart (n - many) (omega arith)
          (together k (n - many) n (omega arith) (omega arith) (omega arith) passes t)
          (subst (λ j. test (get_or xs j d) ≡ true) (sym at) t))

      by_bound : test (get_or xs n d) ≡ true → (n < many) ⊎ (many ≤ n) → passed (suc n) ≤ many
      by_bound t (inl short) =
          let e : 0 + suc n ≡ suc n = omega arith in
          let whole = ap passed e in
          omega (arith, grows 0 (suc n) (omega arith))
      by_bound t (inr long) =
          let e : suc n - many + many ≡ suc n = omega arith in
          let whole = ap passed e in
          omega (
            arith,
            grows (suc n - many) many (omega arith),
            none (suc n - many) (omega arith) (λ k less. fails t long k less (cases_Bool (test (get_or xs k d)))),
          )

      by_test : (test (get_or xs n d) ≡ true) ⊎ (test (get_or xs n d) ≡ false) → passed n ≤ many → passed (suc n) ≤ many
      by_test (inl t) old = by_bound t (cases_lt n many)
      by_test (inr f) old =
          omega (
            arith,
            same,
            old,
            length-filter_more test xs n d (omega arith),
            cond-false {A = ℕ} (test (get_or xs n d)) 1 0 f,
          )
