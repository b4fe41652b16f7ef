-- Lines of the body of a structure's text, by their names.
--
--   states_line n         == `states n`
--   start_line s          == `start s`
--   end_line              == `end`
use Rattle.std.specs.Prelude.{ℕ, [], ◌∷◌, codes}
use Rattle.ml_lines.specs.Lines.{Line, number}

abbrev pub states_line : ℕ → Line
states_line n = codes "states" ∷ number n ∷ []

abbrev pub start_line : ℕ → Line
start_line s = codes "start" ∷ number s ∷ []

abbrev pub end_line : Line
end_line = codes "end" ∷ []
