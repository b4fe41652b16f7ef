-- What a search finds.
--
--   Found P n     == some number below n has the property P
--   First P n     == the first number below n that has P
--   Least P f n   == a number below n that has P, with f least among those that have it
use Rattle.std.specs.Prelude.{ℕ, ◌<◌, ◌≤◌}
use Rattle.ml_lists.specs.Search.{IsFirst}

-- some number below n has the property P
pub record Found (P : ℕ → Type 0) (n : ℕ) : Type 0 where
  pub place : ℕ
  pub below : place < n
  pub holds : P place

-- the first number below n that has the property P
pub record First (P : ℕ → Type 0) (n : ℕ) : Type 0 where
  pub place : ℕ
  pub is_first : IsFirst P n place

-- a number below n that has the property P, at which f is least among the numbers below n that have P
pub record Least (P : ℕ → Type 0) (f : ℕ → ℕ) (n : ℕ) : Type 0 where
  pub place : ℕ
  pub below : place < n
  pub holds : P place
  pub least : (j : ℕ) → j < n → P j → f place ≤ f j
