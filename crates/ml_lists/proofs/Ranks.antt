-- Numbers that pass a test, numbered in their order: the rank of n is the count of the numbers below n that pass.
--
--   count_upto    == the count to a higher bound is no less
--   count_passes  == a number that passes has a rank below those of all higher ones
--   count_same    == two numbers that pass with one rank are equal
--   count_all     == where all numbers below n pass, each of them, and n, is its own rank
--   count_lost    == where some number below n fails, the rank of n is below n
--   count_hit     == each number below the rank of n is the rank of a number below n that passes
use Rattle.std.proofs.Common.{ℕ, zero, suc, ◌≡◌, ◌<◌, ◌≤◌, ◌⊎◌, inl, inr, arith, Bool, true, false, refl, sym, subst}
use Rattle.std.proofs.lemmas.Bool.{cases_Bool, cases_lt, cases_eq, cases_order}
use Rattle.ml_lists.specs.Counting.{count}
use Rattle.ml_lists.proofs.Counting.{count-true, count-false, count_le}

-- the count to a higher bound is no less
pub count_upto : (test : ℕ → Bool) (m n : ℕ) → m ≤ n → count test m ≤ count test n
count_upto test m zero le = let e : m ≡ 0 = omega arith in subst (λ v. count test v ≤ 0) (sym e) (omega arith)
count_upto test m (suc n) le = by_case (cases_lt m (suc n)) (cases_Bool (test n)) (count_upto test m n)
  where
    by_case : (m < suc n) ⊎ (suc n ≤ m)
        → (test n ≡ true) ⊎ (test n ≡ false)
        → (m ≤ n → count test m ≤ count test n)
        → count test m ≤ count test (suc n)
    by_case (inl low) (inl t) old = omega (arith, old (omega arith), count-true test n t)
    by_case (inl low) (inr f) old = omega (arith, old (omega arith), count-false test n f)
    by_case (inr high) t old = let e : suc n ≡ m = omega arith in subst (λ v. count test m ≤ count test v) (sym e) (omega arith)

-- a number that passes has a rank below those of all higher ones
pub count_passes : (test : ℕ → Bool) (m n : ℕ) → m < n → test m ≡ true → count test m < count test n
count_passes test m n low t = omega (arith, count_upto test (suc m) n low, count-true test m t)

-- two numbers that pass with one rank are equal
pub count_same : (test : ℕ → Bool) (m n : ℕ) → test m ≡ true → test n ≡ true → count test m ≡ count test n → m ≡ n
count_same test m n s t e = by_case (cases_order m n)
  where
    by_case : (m ≡ n) ⊎ ((m < n) ⊎ (n < m)) → m ≡ n
    by_case (inl same) = same
    by_case (inr (inl low)) = absurd (omega (arith, e, count_passes test m n low s))
    by_case (inr (inr high)) = absurd (omega (arith, e, count_passes test n m high t))

-- where all numbers below n pass, n is its own rank
pub count_all : (test : ℕ → Bool) (n : ℕ) → ((k : ℕ) → k < n → test k ≡ true) → count test n ≡ n
count_all test zero pass = refl
count_all test (suc n) pass =
    let old = count_all test n (λ k low. pass k (omega arith)) in
    omega (arith, old, count-true test n (pass n (omega arith)))

-- where some number below n fails, the rank of n is below n
pub count_lost : (test : ℕ → Bool) (m n : ℕ) → m < n → test m ≡ false → count test n < n
count_lost test m zero low f = absurd (omega arith)
count_lost test m (suc n) low f = by_case (cases_eq m n) (cases_Bool (test n)) (λ l. count_lost test m n l f)
  where
    by_case : (m ≡ n) ⊎ (m ≡ n → ⊥)
        → (test n ≡ true) ⊎ (test n ≡ false)
        → (m < n → count test n < n)
        → count test (suc n) < suc n
    by_case (inl same) t old = omega (arith, count_le test n, count-false test n (subst (λ v. test v ≡ false) same f))
    by_case (inr other) (inl t) old = omega (arith, old (omega arith), count-true test n t)
    by_case (inr other) (inr g) old = omega (arith, count_le test n, count-false test n g)

-- a number below n that passes, with the rank y
pub record Ranked (test : ℕ → Bool) (n y : ℕ) : Type 0 where
  pub number : ℕ
  pub below : number < n
  pub passes : test number ≡ true
  pub rank : count test number ≡ y

-- each number below the rank of n is the rank of a number below n that passes
pub count_hit : (test : ℕ → Bool) (n y : ℕ) → y < count test n → Ranked test n y
count_hit test zero y low = absurd (omega arith)
count_hit test (suc n) y low = by_case (cases_Bool (test n)) (cases_lt y (count test n)) (count_hit test n y)
  where
    later : Ranked test n y → Ranked test (suc n) y
    later r = record { number = r.number; below = omega (arith, r.below); passes = r.passes; rank = r.rank }

    by_case : (test n ≡ true) ⊎ (test n ≡ false)
        → (y < count test n) ⊎ (count test n ≤ y)
        → (y < count test n → Ranked test n y)
        → Ranked test (suc n) y
    by_case t (inl early) old = later (old early)
    by_case (inl t) (inr late) old = record { number = n; below = omega arith; passes = t; rank = omega (arith, count-true test n t) }
    by_case (inr f) (inr late) old = absurd (omega (arith, count-false test n f))
