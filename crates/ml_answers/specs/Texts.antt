-- Texts that are made of parts.
--
--   IsNothing text          == the text is empty
--   IsLine ws text          == the text is the line of these words, with its LF
--   IsThen P Q text         == the text is one of which P is true, and behind it one of which Q is
--   one_text ts             == the texts ts as one, one behind the other
--   line_count text         == how many LFs the text has
--   next_line text          == the words of the text's first line; none where it has no LF
--   first_line w text       == where the first line begins that is w and an LF, a byte counted from 0; none where no line is
--   up_to_end text          == the text up to and with its first line `end`; all of it where no line is `end`
use Rattle.std.specs.Prelude.{ℕ, ◌≡◌, ◌+◌, if◌then◌else◌, List, [], ◌∷◌, ◌++◌, Option, None, Some, codes, length, take}
use Rattle.std.specs.List.{count_by}
use Rattle.std.specs.Str.{bytes_eq}
use Rattle.ml_lines.specs.Lines.{Line, line_text}
use Rattle.ml_lines.specs.Reading.{is_line_end, lines_of}

abbrev pub IsNothing : List ℕ → Type 0
IsNothing text = text ≡ []

abbrev pub IsLine : Line → List ℕ → Type 0
IsLine words text = text ≡ line_text words

pub record IsThen (P Q : List ℕ → Type 0) (text : List ℕ) : Type 0 where
  pub first : List ℕ
  pub second : List ℕ
  pub are_both : text ≡ first ++ second
  pub is_first : P first
  pub is_second : Q second

abbrev pub one_text : List (List ℕ) → List ℕ
one_text [] = []
one_text (t ∷ ts) = t ++ one_text ts

abbrev pub line_count : List ℕ → ℕ
line_count text = count_by is_line_end text

abbrev pub first_of : List Line → Line
first_of [] = []
first_of (line ∷ lines) = line

abbrev pub next_line : List ℕ → Line
next_line text = first_of (lines_of text)

-- `seen` stands before the rest in its line, which begins at `at`
abbrev pub line_from : List ℕ → ℕ → List ℕ → List ℕ → Option ℕ
line_from w at seen [] = None
line_from w at seen (b ∷ bs) =
    if is_line_end b then (if bytes_eq seen w then Some at else line_from w (at + length seen + 1) [] bs)
    else line_from w at (seen ++ b ∷ []) bs

abbrev pub first_line : List ℕ → List ℕ → Option ℕ
first_line w text = line_from w 0 [] text

-- with the three letters and the LF
abbrev pub up_to_line_at : Option ℕ → List ℕ → List ℕ
up_to_line_at None text = text
up_to_line_at (Some at) text = take (at + 4) text

abbrev pub up_to_end : List ℕ → List ℕ
up_to_end text = up_to_line_at (first_line (codes "end") text) text
