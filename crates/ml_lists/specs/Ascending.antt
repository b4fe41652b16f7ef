-- Ascending lists of numbers, as finite sets.
--
-- An ascending list has each of its members once, so a finite set of numbers is one ascending list.
--
--   IsAscending xs == each entry of xs is below all later ones
--   ascending xs   == the members of xs, ascending, each once
use Rattle.std.specs.Prelude.{ℕ, ◌<◌, List, [], ◌∷◌, ◌==◌, nat_lt, if◌then◌else◌}
use Rattle.ml_lists.specs.Member.{IsMember}

-- each entry is below all later ones
abbrev pub IsAscending : List ℕ → Type 0
IsAscending [] = Unit {0}
IsAscending (x ∷ xs) = ((y : ℕ) → IsMember y xs → x < y) × IsAscending xs

-- the set xs with x
abbrev pub insert_once : ℕ → List ℕ → List ℕ
insert_once x [] = x ∷ []
insert_once x (y ∷ ys) = if nat_lt x y then x ∷ (y ∷ ys) else (if x == y then y ∷ ys else y ∷ insert_once x ys)

-- the members of xs, ascending, each once
abbrev pub ascending : List ℕ → List ℕ
ascending [] = []
ascending (x ∷ xs) = insert_once x (ascending xs)
