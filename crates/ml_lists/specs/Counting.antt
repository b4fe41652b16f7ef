-- How many numbers below a bound pass a test.
--
--   count test n == how many numbers below n pass the test
use Rattle.std.specs.Prelude.{ℕ, zero, suc, Bool, cond}

-- how many numbers below n pass the test
abbrev pub count : (ℕ → Bool) → ℕ → ℕ
count test zero = zero
count test (suc n) = cond (test n) (suc (count test n)) (count test n)
