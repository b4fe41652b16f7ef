-- Growing sequences of sets below a bound come to rest, and iterates give least fixpoints.
--
--   stable_soon      == a growing sequence of sets of numbers below n adds nothing at some step of at most n
--   iterates_grow    == the iterates of a monotone operation grow, if the first one does
--   iterates_least   == the iterates of a monotone operation from within a closed set stay within it
use Rattle.std.proofs.Common.{ℕ, zero, suc, ◌≡◌, ◌<◌, ◌≤◌, ◌⊎◌, inl, inr, ⊎_elim, arith, Bool, true, false, sym, ◌∙◌}
use Rattle.std.proofs.lemmas.Bool.{cases_Bool, false≢true}
use Rattle.ml_lists.specs.Found.{Found}
use Rattle.ml_lists.specs.Counting.{count}
use Rattle.ml_lists.specs.Walk.{walk}
use Rattle.ml_lists.specs.Growing.{Within, Grows, Stable, IsClosed}
use Rattle.ml_lists.proofs.Search.{search}
use Rattle.ml_lists.proofs.Counting.{count_le, count_strict}

-- a number below n that the set after set k adds
record Adds (n : ℕ) (sets : ℕ → ℕ → Bool) (k : ℕ) : Type 0 where
  pub number : ℕ
  pub low : number < n
  pub new : sets (suc k) number ≡ true
  pub old : sets k number ≡ false

-- a set adds some number, or none
adds_or_stable : (n : ℕ) (sets : ℕ → ℕ → Bool) (k : ℕ) → Stable n sets k ⊎ Adds n sets k
adds_or_stable n sets k = from (search (λ v. (sets (suc k) v ≡ true) × (sets k v ≡ false)) (λ v. sets (suc k) v ≡ true → sets k v ≡ true) decide n)
  where
    by_case : (v : ℕ) → (sets (suc k) v ≡ true) ⊎ (sets (suc k) v ≡ false) → (sets k v ≡ true) ⊎ (sets k v ≡ false)
        → ((sets (suc k) v ≡ true) × (sets k v ≡ false)) ⊎ (sets (suc k) v ≡ true → sets k v ≡ true)
    by_case v (inl new) (inl old) = inr (λ h. old)
    by_case v (inl new) (inr old) = inl (new, old)
    by_case v (inr out) o = inr (λ h. absurd (false≢true (sym out ∙ h)))

    decide : (v : ℕ) → ((sets (suc k) v ≡ true) × (sets k v ≡ false)) ⊎ (sets (suc k) v ≡ true → sets k v ≡ true)
    decide v = by_case v (cases_Bool (sets (suc k) v)) (cases_Bool (sets k v))

    from :
        Found (λ v. (sets (suc k) v ≡ true) × (sets k v ≡ false)) n ⊎ ((v : ℕ) → v < n → sets (suc k) v ≡ true → sets k v ≡ true)
        → Stable n sets k ⊎ Adds n sets k
    from (inl f) = inr (record { number = f.place; low = f.below; new = f.holds.0; old = f.holds.1 })
    from (inr none) = inl none

-- sets that always add a number have at least as many numbers as steps were made
many : (n : ℕ) (sets : ℕ → ℕ → Bool) → Grows n sets → (m : ℕ) → ((k : ℕ) → k < m → Adds n sets k)
    → m ≤ count (sets m) n
many n sets grows zero adds = omega arith
many n sets grows (suc m) adds =
    let before = many n sets grows m (λ k low. adds k (omega arith)) in
    let a = adds m (omega arith) in
    let more = count_strict (sets m) (sets (suc m)) n (grows m) a.number a.low a.old a.new in
    omega arith

-- a growing sequence of sets of numbers below n adds nothing at some step of at most n
pub stable_soon : (n : ℕ) (sets : ℕ → ℕ → Bool) → Grows n sets → Found (Stable n sets) (suc n)
stable_soon n sets grows = ⊎_elim
    (λ (f : Found (Stable n sets) (suc n)). f)
    (λ (always : (k : ℕ) → k < suc n → Adds n sets k). absurd (omega (arith, many n sets grows (suc n) always, count_le (sets (suc n)) n)))
    (search (Stable n sets) (Adds n sets) (adds_or_stable n sets) (suc n))

-- the iterates of a monotone operation grow, if the first one does
pub iterates_grow : (n : ℕ) (step : (ℕ → Bool) → ℕ → Bool)
    → ((s t : ℕ → Bool) → Within n s t → Within n (step s) (step t)) → (s : ℕ → Bool) → Within n s (step s)
    → Grows n (walk step s)
iterates_grow n step monotone s first zero = first
iterates_grow n step monotone s first (suc k) = monotone (walk step s k) (walk step s (suc k)) (iterates_grow n step monotone s first k)

-- the iterates of a monotone operation from within a closed set stay within it
pub iterates_least : (n : ℕ) (step : (ℕ → Bool) → ℕ → Bool)
    → ((s t : ℕ → Bool) → Within n s t → Within n (step s) (step t)) → (s t : ℕ → Bool) → Within n s t
    → IsClosed n step t → (k : ℕ) → Within n (walk step s k) t
iterates_least n step monotone s t inside closed zero = inside
iterates_least n step monotone s t inside closed (suc k) =
    λ v low h. closed v low (monotone (walk step s k) t (iterates_least n step monotone s t inside closed k) v low h)
