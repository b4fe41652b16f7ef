-- The places of a list at which a number stands, each linked to the one before it.
--
-- A place is told by the number behind it, so that 0 says that there is none.
--
--   IsLastBefore xs k x b  == b tells the last place before k at which x stands
--   ArePlaces xs bound p   == p has the last place of each number below the bound, and of each place the one before it with
--                             the same number
use Rattle.std.specs.Prelude.{ℕ, ◌≡◌, ◌≢◌, ◌+◌, ◌<◌, ◌≤◌, List, length, get_or}
use Rattle.ml_bisim.specs.declared.places.Places.{Places}

pub record IsLastBefore (xs : List ℕ) (k x b : ℕ) : Type 0 where
  pub before : b ≤ k
  pub stands : (i : ℕ) → b ≡ i + 1 → get_or xs i 0 ≡ x
  pub none_later : (i : ℕ) → b ≤ i → i < k → get_or xs i 0 ≢ x

pub record ArePlaces (xs : List ℕ) (bound : ℕ) (p : Places) : Type 0 where
  pub each_number : length p.last.items ≡ bound
  pub each_place : length p.before.items ≡ length xs
  pub last : (x : ℕ) → x < bound → IsLastBefore xs (length xs) x (get_or p.last.items x 0)
  pub links : (k : ℕ) → k < length xs → IsLastBefore xs k (get_or xs k 0) (get_or p.before.items k 0)
