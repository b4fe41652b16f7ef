-- The least number that passes a test.
--
--   least test n == the least number below n that passes the test, or None
use Rattle.std.specs.Prelude.{ℕ, zero, suc, Bool, Option, Some, None, if◌then◌else◌}

-- the first of two answers that is one
abbrev pub first_answer : {A : Type 0} → Option A → Option A → Option A
first_answer None o = o
first_answer (Some x) o = Some x

-- the least number below n that passes the test
abbrev pub least : (ℕ → Bool) → ℕ → Option ℕ
least test zero = None
least test (suc n) = first_answer (least test n) (if test n then Some n else None)
