-- Lines and columns.
--
-- Both are counted from 1. A line ends behind its LF, and a column counts the bytes of its line, a tab and a CR each as one.
--
--   line_at text at    == the line of the byte with this place in the text, which may be the text's end
--   column_at text at  == its column
use Rattle.std.specs.Prelude.{ℕ, ◌+◌, not, List, take}
use Rattle.std.specs.List.{count_by, suffix_len}
use Rattle.ml_lines.specs.Reading.{is_line_end}

-- each LF before the place ends a line
abbrev pub line_at : List ℕ → ℕ → ℕ
line_at text at = 1 + count_by is_line_end (take at text)

-- the bytes before the place up to the last LF stand in its line
abbrev pub column_at : List ℕ → ℕ → ℕ
column_at text at = 1 + suffix_len (λ b. not (is_line_end b)) (take at text)
