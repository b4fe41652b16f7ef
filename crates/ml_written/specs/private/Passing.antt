-- The names of a formula one after the other, up to the first proposition that isn't declared.
--
--   declares ps p          == is p among the declared names ps?
--   counted w              == a name that begins with a lower-case letter counts as one
--   passed_name ps n p     == behind the proposition p, how many are counted, from n on; or n, where it isn't declared
--   passed ps n xs         == the same behind the names xs
use Rattle.std.specs.Prelude.{ℕ, ◌+◌, Bool, bytes_eq, if◌then◌else◌, List, [], ◌∷◌, Result, Ok, Err}
use Rattle.std.specs.List.{list_any}
use Rattle.ml_text.specs.Names.{Kind, KindedName, Proposition, Variable, Action}
use Rattle.ml_written.specs.Places.{begins_lower}

abbrev pub declares : List (List ℕ) → List ℕ → Bool
declares ps p = list_any (bytes_eq p) ps

abbrev pub counted : List ℕ → ℕ
counted w = if begins_lower w then 1 else 0

abbrev pub passed_name : List (List ℕ) → ℕ → List ℕ → Result ℕ ℕ
passed_name ps n p = if declares ps p then Ok (n + counted p) else Err n

-- behind one name
abbrev pub passed_one : List (List ℕ) → ℕ → Kind → List ℕ → Result ℕ ℕ
passed_one ps n Proposition w = passed_name ps n w
passed_one ps n Variable w = Ok (n + counted w)
passed_one ps n Action w = Ok (n + counted w)

-- goes on behind these
abbrev pub on_ok : Result ℕ ℕ → (ℕ → Result ℕ ℕ) → Result ℕ ℕ
on_ok (Ok n) on = on n
on_ok (Err n) on = Err n

abbrev pub passed : List (List ℕ) → ℕ → List KindedName → Result ℕ ℕ
passed ps n [] = Ok n
passed ps n (x ∷ xs) = on_ok (passed_one ps n x.0 x.1) (λ m. passed ps m xs)
