-- Lists of names, each once, in the order in which they come, and the places of names in them. Names are lists of bytes,
-- and places are counted from 0.
--
--   with_name ps p   == the names ps, and behind them p if it isn't among them
--   with_names ps qs == the names ps, with the names qs added one after the other
--   place_of ps p    == the first place of the name p, or 0 if it isn't among them
use Rattle.std.specs.Prelude.{ℕ, if◌then◌else◌, List, [], ◌∷◌, ◌++◌, unwrap_or, position}
use Rattle.std.specs.List.{list_any}
use Rattle.std.specs.Str.{bytes_eq}

abbrev pub with_name : List (List ℕ) → List ℕ → List (List ℕ)
with_name ps p = if list_any (bytes_eq p) ps then ps else ps ++ p ∷ []

abbrev pub with_names : List (List ℕ) → List (List ℕ) → List (List ℕ)
with_names ps [] = ps
with_names ps (q ∷ qs) = with_names (with_name ps q) qs

abbrev pub place_of : List (List ℕ) → List ℕ → ℕ
place_of ps p = unwrap_or (position (bytes_eq p) ps) 0
