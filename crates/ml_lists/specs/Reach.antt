-- Reachability along a relation on numbers, in finitely many steps.
--
-- A way is a sequence of numbers, of which the first m steps matter. Steps are counted, so that a bound on the number
-- of steps can be said; a way of no step leads from a number to itself.
--
--   Reaches R v w m == some way of m steps of R leads from v to w
use Rattle.std.specs.Prelude.{ℕ, ◌≡◌, ◌+◌, ◌<◌}

-- some way of m steps of R leads from v to w
pub record Reaches (R : ℕ → ℕ → Type 0) (v w m : ℕ) : Type 0 where
  pub way : ℕ → ℕ
  pub begins : way 0 ≡ v
  pub ends : way m ≡ w
  pub steps : (k : ℕ) → k < m → R (way k) (way (k + 1))
