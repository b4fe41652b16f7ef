-- The word `paritysol`, sought byte by byte outside of names, as the program does it.
--
--   inside_name b rest  == how many bytes behind this one belong to a name that begins here
--   word_from k i text  == the byte at which the word stands in a text whose first byte stands at the place i, where its
--                          first k bytes belong to a name
--   word_sought text    == that of a whole text
use Rattle.std.specs.Prelude.{ℕ, zero, suc, ◌+◌, ◌-◌, ◌==◌, nat_eq, List, [], ◌∷◌, length, Option, Some, None, if◌then◌else◌, codes}
use Rattle.std.specs.List.{starts_with}
use Rattle.ml_pgsolver.specs.Tokens.{quoted, spelling}

abbrev pub inside_name : ℕ → List ℕ → ℕ
inside_name b rest = if b == 34 then length (spelling (quoted rest)) - 1 else 0

unfoldable pub word_from : ℕ → ℕ → List ℕ → Option ℕ
word_from k i [] = None
word_from (suc k) i (b ∷ rest) = word_from k (i + 1) rest
word_from zero i (b ∷ rest) =
    if starts_with nat_eq (b ∷ rest) (codes "paritysol") then Some i
    else word_from (inside_name b rest) (i + 1) rest

abbrev pub word_sought : List ℕ → Option ℕ
word_sought text = word_from 0 0 text
