-- Sequences, and sequences that come back to where they began.
--
-- A sequence is a function c on numbers, of values of any type; its steps are the pairs of c k and c (k + 1). A
-- loop of length m is a sequence with c m = c 0. Steps matter below m alone.
--
--   onward       == what each step keeps, and holds at k, holds d steps later
--   around       == on a loop, what each step keeps, and holds somewhere, holds everywhere
--   never_rises  == a sequence of numbers of which no step rises does not rise in d steps
--   loop_is_flat == on a loop of numbers of which no step rises, no step falls
use Rattle.std.proofs.Common.{ℕ, zero, suc, ◌≡◌, ◌+◌, ◌-◌, ◌<◌, ◌≤◌, arith, subst}

-- what each step keeps, and holds at k, holds d steps later
pub onward : {A : Type 0} → (c : ℕ → A) (P : A → Type 0) (m : ℕ) → ((k : ℕ) → k < m → P (c k) → P (c (k + 1)))
    → (k d : ℕ) → k + d ≤ m → P (c k) → P (c (k + d))
onward c P m keeps k zero fits here = let e : k ≡ k + 0 = omega arith in subst (λ j. P (c j)) e here
onward c P m keeps k (suc d) fits here =
    let e : k + d + 1 ≡ k + suc d = omega arith in
    subst (λ j. P (c j)) e (keeps (k + d) (omega arith) (onward c P m keeps k d (omega arith) here))

-- what each step keeps, and holds at k, holds at each later place
pub onward_to : {A : Type 0} → (c : ℕ → A) (P : A → Type 0) (m : ℕ) → ((k : ℕ) → k < m → P (c k) → P (c (k + 1)))
    → (k j : ℕ) → k ≤ j → j ≤ m → P (c k) → P (c j)
onward_to c P m keeps k j later fits here =
    let e : k + (j - k) ≡ j = omega arith in
    subst (λ i. P (c i)) e (onward c P m keeps k (j - k) (omega arith) here)

-- on a loop, what each step keeps, and holds somewhere, holds everywhere
pub around : {A : Type 0} → (c : ℕ → A) (P : A → Type 0) (m : ℕ) → c m ≡ c 0
    → ((k : ℕ) → k < m → P (c k) → P (c (k + 1))) → (k : ℕ) → k ≤ m → P (c k) → (j : ℕ) → j ≤ m → P (c j)
around c P m closed keeps k low here j within =
    let at_end : P (c m) = onward_to c P m keeps k m low (omega arith) here in
    let at_start : P (c 0) = subst P closed at_end in
    onward_to c P m keeps 0 j (omega arith) within at_start

-- a sequence of numbers of which no step rises does not rise from k to j
pub never_rises : (r : ℕ → ℕ) (m : ℕ) → ((k : ℕ) → k < m → r (k + 1) ≤ r k) → (k j : ℕ) → k ≤ j → j ≤ m → r j ≤ r k
never_rises r m steps k j later fits =
    onward_to r (λ x. x ≤ r k) m (λ i low below. omega (arith, steps i low, below)) k j later fits (omega arith)

-- on a loop of numbers of which no step rises, no step falls
pub loop_is_flat : (r : ℕ → ℕ) (m : ℕ) → r m ≡ r 0 → ((k : ℕ) → k < m → r (k + 1) ≤ r k) → (k : ℕ) → k < m
    → r (k + 1) < r k → ⊥
loop_is_flat r m closed steps k low falls =
    let before = never_rises r m steps 0 k (omega arith) (omega arith) in
    let after = never_rises r m steps (k + 1) m (omega arith) (omega arith) in
    omega arith
