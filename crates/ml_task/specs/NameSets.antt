-- Sets of names as numbers: bit k of the number tells whether the k-th of the names is in the set. So the sets of n names are
-- the numbers below 2^n.
--
--   members ns s   == the names of ns that are in the set s, in their order
use Rattle.std.specs.Prelude.{ℕ, ◌/◌, ◌%◌, ◌==◌, List, [], ◌∷◌, if◌then◌else◌}

-- bit 0 tells of the first name
abbrev pub members : List (List ℕ) → ℕ → List (List ℕ)
members [] s = []
members (n ∷ ns) s = if s % 2 == 1 then n ∷ members ns (s / 2) else members ns (s / 2)
