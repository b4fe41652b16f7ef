-- A function on numbers with one value changed.
--
--   update f t w == the function that is w at t, and f elsewhere
use Rattle.std.specs.Prelude.{ℕ, cond, eqb}

-- the function that is w at t, and f elsewhere
abbrev pub update : {A : Type 0} → (ℕ → A) → ℕ → A → ℕ → A
update f t w v = cond (eqb v t) w (f v)
