-- Bounded search: a number below a bound with a property.
--
-- A property of numbers is a family of types. Each notion is a record, so that a proof can name its parts.
--
--   IsFirst P n v == v is the first number below n that has P: no smaller one has it
use Rattle.std.specs.Prelude.{ℕ, ◌<◌}

-- v is the first number below n that has the property P
pub record IsFirst (P : ℕ → Type 0) (n v : ℕ) : Type 0 where
  pub below : v < n
  pub holds : P v
  pub before : (j : ℕ) → j < v → P j → ⊥
