-- The lowest entry of a list of numbers.
--
-- A list with its head apart is never empty, so the lowest entry of it always exists: `lowest x xs` is that
-- of the list x, xs. (A list that may be empty has none, and no number stands in for it.)
--
--   lowest x xs == the least number among x and the entries of xs
use Rattle.std.specs.Prelude.{ℕ, List, [], ◌∷◌, min}

-- the least number among x and the entries of xs
abbrev pub lowest : ℕ → List ℕ → ℕ
lowest x [] = x
lowest x (y ∷ ys) = min x (lowest y ys)
