-- The last element of a list.
--
--   last_of before xs       == the last element of xs, which stand behind `before`, if something does
use Rattle.std.specs.Prelude.{List, [], ◌∷◌, Option, Some}

abbrev pub last_of : {K : Type 0} → Option K → List K → Option K
last_of before [] = before
last_of before (x ∷ xs) = last_of (Some x) xs
