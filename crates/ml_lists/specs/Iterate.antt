-- Iterates of a function, in the words of fixpoints: the k-th iterate of a step from a start.
--
--   iterate k step x  == the k-th iterate of step from x: step applied k times
use Rattle.std.specs.Prelude.{ℕ}
use Rattle.ml_lists.specs.Walk.{walk}

abbrev pub iterate : {A : Type 0} → ℕ → (A → A) → A → A
iterate k step x = walk step x k
