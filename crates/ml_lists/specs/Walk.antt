-- Walks: what a function gives when it is applied again and again.
--
--   walk next x k == the function next, applied k times to x
use Rattle.std.specs.Prelude.{ℕ, zero, suc}

-- the function next, applied k times to x
abbrev pub walk : {A : Type 0} → (A → A) → A → ℕ → A
walk next x zero = x
walk next x (suc k) = next (walk next x k)
