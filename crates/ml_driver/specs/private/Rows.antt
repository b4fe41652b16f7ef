-- Rows of the table of commands as the program has them. Private contracts cite this.
--
--   verb_in bytes rows w == the verb of the first row whose word is w
use Rattle.std.specs.Prelude.{ℕ, List, [], ◌∷◌, Option, Some, None, if◌then◌else◌}
use Rattle.std.specs.Str.{bytes_eq}
use Rattle.ml_lines.specs.Lines.{Word}
use Rattle.ml_driver.specs.declared.table.Verb.{Verb}

-- a row has its word as a text, and the text has these bytes
abbrev pub verb_in : {Text : Type 0} (bytes : Text → Word) → List (Text × Verb) → Word → Option Verb
verb_in bytes [] w = None
verb_in bytes (r ∷ rows) w = if bytes_eq w (bytes r.0) then Some r.1 else verb_in bytes rows w
