-- Bounded search.
--
-- A search over the numbers below n either finds one with a property, or shows that each has the other
-- property. The decision at each number is an argument, so that nothing here needs excluded middle.
--
--   all_below_suc == what holds of each number below n, and of n, holds of each below n + 1
--   search        == some number below n has P, or each has Q
--   search_first  == the first number below n has P, or none has P
--   first_unique  == there is one first number with P
--   search_least  == a number with P at which f is least, or none below n has P
use Rattle.std.proofs.Common.{ℕ, zero, suc, ◌≡◌, ◌<◌, ◌≤◌, ◌⊎◌, inl, inr, arith, subst, sym, ⊎_elim}
use Rattle.std.proofs.lemmas.Bool.{cases_eq, cases_lt, cases_order}
use Rattle.ml_lists.specs.Search.{IsFirst}
use Rattle.ml_lists.specs.Found.{Found, First, Least}

-- what holds of each number below n, and of n, holds of each number below n + 1
pub all_below_suc : (P : ℕ → Type 0) (n : ℕ) → ((k : ℕ) → k < n → P k) → P n → (k : ℕ) → k < suc n → P k
all_below_suc P n each last k low = by_case (cases_eq k n)
  where
    by_case : (k ≡ n) ⊎ (k ≡ n → ⊥) → P k
    by_case (inl same) = subst P (sym same) last
    by_case (inr other) = each k (omega arith)

-- some number below n has P, or each has Q
pub search : (P Q : ℕ → Type 0) → ((k : ℕ) → P k ⊎ Q k) → (n : ℕ) → Found P n ⊎ ((k : ℕ) → k < n → Q k)
search P Q decide zero = inr (λ k low. absurd (omega arith))
search P Q decide (suc n) = more (search P Q decide n) (decide n)
  where
    more : Found P n ⊎ ((k : ℕ) → k < n → Q k) → P n ⊎ Q n → Found P (suc n) ⊎ ((k : ℕ) → k < suc n → Q k)
    more (inl f) d = inl (record { place = f.place; below = omega (arith, f.below); holds = f.holds })
    more (inr none) (inl p) = inl (record { place = n; below = omega arith; holds = p })
    more (inr none) (inr q) = inr (all_below_suc Q n none q)

-- the first number below n that has P, or none below n has it
pub search_first : (P : ℕ → Type 0) → ((k : ℕ) → P k ⊎ (P k → ⊥)) → (n : ℕ) → First P n ⊎ ((k : ℕ) → k < n → P k → ⊥)
search_first P decide zero = inr (λ k low. absurd (omega arith))
search_first P decide (suc n) = more (search_first P decide n) (decide n)
  where
    more : First P n ⊎ ((k : ℕ) → k < n → P k → ⊥) → P n ⊎ (P n → ⊥)
        → First P (suc n) ⊎ ((k : ℕ) → k < suc n → P k → ⊥)
    more (inl f) d =
        inl
        (record {
          place = f.place;
          is_first = record
              { below = omega (arith, f.is_first.below); holds = f.is_first.holds; before = f.is_first.before };
        })
    more (inr none) (inl p) = inl (record { place = n; is_first = record { below = omega arith; holds = p; before = none } })
    more (inr none) (inr q) = inr (all_below_suc (λ k. P k → ⊥) n none q)

-- the first number that has P is one
pub first_unique : (P : ℕ → Type 0) (n v w : ℕ) → IsFirst P n v → IsFirst P n w → v ≡ w
first_unique P n v w a b = by_case (cases_order v w)
  where
    by_case : (v ≡ w) ⊎ ((v < w) ⊎ (w < v)) → v ≡ w
    by_case (inl same) = same
    by_case (inr (inl lower)) = absurd (b.before v lower a.holds)
    by_case (inr (inr higher)) = absurd (a.before w higher b.holds)

-- a number below n that has P at which f is least, or none below n has P
pub search_least : (P : ℕ → Type 0) (f : ℕ → ℕ) → ((k : ℕ) → P k ⊎ (P k → ⊥)) → (n : ℕ)
    → Least P f n ⊎ ((k : ℕ) → k < n → P k → ⊥)
search_least P f decide zero = inr (λ k low. absurd (omega arith))
search_least P f decide (suc n) = more (search_least P f decide n) (decide n)
  where
    keep : (m : Least P f n) → (P n → f m.place ≤ f n) → Least P f (suc n)
    keep m last = record {
      place = m.place;
      below = omega (arith, m.below);
      holds = m.holds;
      least = all_below_suc (λ j. P j → f m.place ≤ f j) n m.least last;
    }

    replace : (m : Least P f n) → P n → f n < f m.place → Least P f (suc n)
    replace m p smaller = record {
      place = n;
      below = omega arith;
      holds = p;
      least = all_below_suc (λ j. P j → f n ≤ f j) n (λ j low q. omega (arith, m.least j low q)) (λ q. omega arith);
    }

    compare : Least P f n → P n → Least P f (suc n)
    compare m p =
        ⊎_elim (λ (smaller : f n < f m.place). replace m p smaller) (λ (larger : f m.place ≤ f n). keep m (λ q. larger))
        (cases_lt (f n) (f m.place))

    more : Least P f n ⊎ ((k : ℕ) → k < n → P k → ⊥) → P n ⊎ (P n → ⊥)
        → Least P f (suc n) ⊎ ((k : ℕ) → k < suc n → P k → ⊥)
    more (inl m) (inl p) = inl (compare m p)
    more (inl m) (inr q) = inl (keep m (λ p. absurd (q p)))
    more (inr none) (inl p) =
        inl
        (record {
          place = n;
          below = omega arith;
          holds = p;
          least = all_below_suc (λ j. P j → f n ≤ f j) n (λ j low q. absurd (none j low q)) (λ q. omega arith);
        })
    more (inr none) (inr q) = inr (all_below_suc (λ k. P k → ⊥) n none q)
