-- How often a number stands in a list, and lists in which each stands once.
--
--   times y xs  == how often y stands in xs
--   IsApart xs  == each entry of xs differs from all later ones
use Rattle.std.specs.Prelude.{ℕ, ◌+◌, ◌==◌, cond, List, [], ◌∷◌}
use Rattle.ml_lists.specs.Member.{IsMember}

-- 1 where x is y, and 0 where it is another number
abbrev pub once_for : ℕ → ℕ → ℕ
once_for y x = cond (x == y) 1 0

-- how often y stands in xs
abbrev pub times : ℕ → List ℕ → ℕ
times y [] = 0
times y (x ∷ xs) = once_for y x + times y xs

-- each entry differs from all later ones
abbrev pub IsApart : List ℕ → Type 0
IsApart [] = Unit {0}
IsApart (x ∷ xs) = (¬ (IsMember x xs)) × IsApart xs
