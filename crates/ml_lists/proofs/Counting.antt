-- How many numbers below a bound pass a test.
--
--   count-true, count-false == one number more: it counts if it passes, and does not otherwise
--   count_le                == at most n numbers below n pass
--   count_mono              == no more pass a stronger test
--   count_strict            == fewer pass a stronger test that some number fails where the other passes
--   count_none              == where none passes, the count is 0
--   count_zero              == where the count is 0, none passes
use Rattle.std.proofs.Common.{ℕ, zero, suc, ◌≡◌, ◌<◌, ◌≤◌, ◌⊎◌, inl, inr, arith, Bool, true, false, subst, refl}
use Rattle.std.proofs.lemmas.Bool.{cases_eq, cases_Bool, cond-true, cond-false}
use Rattle.ml_lists.specs.Counting.{count}

-- one number more that passes counts
pub count-true : (test : ℕ → Bool) (n : ℕ) → test n ≡ true → count test (suc n) ≡ suc (count test n)
count-true test n passes = cond-true (test n) (suc (count test n)) (count test n) passes

-- one number more that fails does not count
pub count-false : (test : ℕ → Bool) (n : ℕ) → test n ≡ false → count test (suc n) ≡ count test n
count-false test n fails = cond-false (test n) (suc (count test n)) (count test n) fails

-- at most n numbers below n pass
pub count_le : (test : ℕ → Bool) (n : ℕ) → count test n ≤ n
count_le test zero = omega arith
count_le test (suc n) = more (count_le test n) (cases_Bool (test n))
  where
    more : count test n ≤ n → (test n ≡ true) ⊎ (test n ≡ false) → count test (suc n) ≤ suc n
    more old (inl passes) = omega (arith, old, count-true test n passes)
    more old (inr fails) = omega (arith, old, count-false test n fails)

-- no more numbers pass a stronger test
pub count_mono : (strong weak : ℕ → Bool) (n : ℕ) → ((k : ℕ) → k < n → strong k ≡ true → weak k ≡ true)
    → count strong n ≤ count weak n
count_mono strong weak zero implies = omega arith
count_mono strong weak (suc n) implies =
    more (count_mono strong weak n (λ k low. implies k (omega arith))) (cases_Bool (strong n)) (cases_Bool (weak n))
  where
    more : count strong n ≤ count weak n → (strong n ≡ true) ⊎ (strong n ≡ false) → (weak n ≡ true) ⊎ (weak n ≡ false)
        → count strong (suc n) ≤ count weak (suc n)
    more old (inl s) (inl w) = omega (arith, old, count-true strong n s, count-true weak n w)
    more old (inl s) (inr w) = let both = implies n (omega arith) s in absurd (cc)
    more old (inr s) (inl w) = omega (arith, old, count-false strong n s, count-true weak n w)
    more old (inr s) (inr w) = omega (arith, old, count-false strong n s, count-false weak n w)

-- fewer numbers pass a stronger test that some number fails where the other passes
pub count_strict : (strong weak : ℕ → Bool) (n : ℕ) → ((k : ℕ) → k < n → strong k ≡ true → weak k ≡ true) → (t : ℕ)
    → t < n → strong t ≡ false → weak t ≡ true → count strong n < count weak n
count_strict strong weak zero implies t low fails passes = absurd (omega arith)
count_strict strong weak (suc n) implies t low fails passes =
    by_case (cases_eq t n) (count_strict strong weak n (λ k below. implies k (omega arith)) t)
  where
    earlier : count strong n < count weak n → (strong n ≡ true) ⊎ (strong n ≡ false)
        → (weak n ≡ true) ⊎ (weak n ≡ false) → count strong (suc n) < count weak (suc n)
    earlier old (inl s) (inl w) = omega (arith, old, count-true strong n s, count-true weak n w)
    earlier old (inl s) (inr w) = let both = implies n (omega arith) s in absurd (cc)
    earlier old (inr s) (inl w) = omega (arith, old, count-false strong n s, count-true weak n w)
    earlier old (inr s) (inr w) = omega (arith, old, count-false strong n s, count-false weak n w)

    by_case : (t ≡ n) ⊎ (t ≡ n → ⊥) → (t < n → strong t ≡ false → weak t ≡ true → count strong n < count weak n)
        → count strong (suc n) < count weak (suc n)
    by_case (inl same) old =
        let f : strong n ≡ false = subst (λ v. strong v ≡ false) same fails in
        let p : weak n ≡ true = subst (λ v. weak v ≡ true) same passes in
        let before = count_mono strong weak n (λ k below. implies k (omega arith)) in
        omega (arith, before, count-false strong n f, count-true weak n p)
    by_case (inr other) old = earlier (old (omega arith) fails passes) (cases_Bool (strong n)) (cases_Bool (weak n))

-- where none passes, the count is 0
pub count_none : (test : ℕ → Bool) (n : ℕ) → ((k : ℕ) → k < n → test k ≡ false) → count test n ≡ 0
count_none test zero fails = refl
count_none test (suc n) fails =
    let old = count_none test n (λ k low. fails k (omega arith)) in
    omega (arith, old, count-false test n (fails n (omega arith)))

-- where the count is 0, none passes
pub count_zero : (test : ℕ → Bool) (n : ℕ) → count test n ≡ 0 → (k : ℕ) → k < n → test k ≡ true → ⊥
count_zero test n zero_count k low passes =
    let some = count_strict (λ v. false) test n (λ v below h. absurd (cc)) k low refl passes in
    omega (arith, some, zero_count)
