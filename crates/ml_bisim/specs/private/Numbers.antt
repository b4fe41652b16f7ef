-- Keys that are numbered.
--
--   AreNumbers eq ks ns n == each key has a number, equal keys the same one, and each new number is the next, up to n
use Rattle.std.specs.Prelude.{ℕ, ◌≡◌, ◌↔◌, Bool, true, List, Some, length, get_or, slice_get}
use Rattle.ml_lists.specs.InTurn.{RunsOn}

pub record AreNumbers {K : Type 0} (eq : K → K → Bool) (ks : List K) (ns : List ℕ) (n : ℕ) : Type 0 where
  pub each_key : length ns ≡ length ks
  pub same : (i j : ℕ) (x y : K) → slice_get ks i ≡ Some x → slice_get ks j ≡ Some y
      → (get_or ns i 0 ≡ get_or ns j 0) ↔ (eq x y ≡ true)
  pub in_turn : RunsOn 0 ns n
