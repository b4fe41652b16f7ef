-- Growing sequences of sets of numbers below a bound.
--
-- A set of numbers is a test. Only the numbers below n matter.
--
--   Within n s t       == each number below n in s is in t
--   Grows n sets       == each set of the sequence lies within the next
--   Stable n sets k    == the set after set k adds nothing
--   IsClosed n step s  == the operation step adds nothing to s
use Rattle.std.specs.Prelude.{ℕ, ◌≡◌, ◌<◌, suc, Bool, true}

-- each number below n in s is in t
abbrev pub Within : ℕ → (ℕ → Bool) → (ℕ → Bool) → Type 0
Within n s t = (v : ℕ) → v < n → s v ≡ true → t v ≡ true

-- each set of the sequence lies within the next
abbrev pub Grows : ℕ → (ℕ → ℕ → Bool) → Type 0
Grows n sets = (k : ℕ) → Within n (sets k) (sets (suc k))

-- the set after set k adds nothing
abbrev pub Stable : ℕ → (ℕ → ℕ → Bool) → ℕ → Type 0
Stable n sets k = Within n (sets (suc k)) (sets k)

-- the operation step adds nothing to s
abbrev pub IsClosed : ℕ → ((ℕ → Bool) → ℕ → Bool) → (ℕ → Bool) → Type 0
IsClosed n step s = Within n (step s) s
