-- A value that a sequence of numbers takes twice.
--
--   Twice f n == f takes one value at two different numbers of at most n
use Rattle.std.specs.Prelude.{ℕ, ◌≡◌, ◌<◌, ◌≤◌}

-- f takes one value at two different numbers of at most n
pub record Twice (f : ℕ → ℕ) (n : ℕ) : Type 0 where
  pub first : ℕ
  pub second : ℕ
  pub apart : first < second
  pub within : second ≤ n
  pub same : f first ≡ f second
