-- Documents as lines of words.
--
-- A line is its words, separated by one blank, with one LF at its end; a document is its lines, one behind the other.
-- So a line of no words is the LF alone. Which bytes a word may have is no matter of this file: the last word of a
-- line may be a text that has blanks of its own, as a formula does. Numbers are words, in decimal and without leading
-- zeros.
--
--   Word, Line      == a list of bytes; a list of words
--   number n        == the word for the number n
--   next word       == a word behind another one: the blank between them, and the word
--   line_text ws    == the bytes of a line, its LF included
--   text_of ls      == the bytes of all lines
use Rattle.std.specs.Prelude.{ℕ, List, [], ◌∷◌, ◌++◌}
use Rattle.std.specs.List.{flat_map, join_with_byte}
use Rattle.std.specs.Fmt.{decimal}

abbrev pub Word : Type 0
Word = List ℕ

abbrev pub Line : Type 0
Line = List Word

abbrev pub number : ℕ → Word
number n = decimal n

-- 32 is the blank, 10 the LF
abbrev pub next : Word → List ℕ
next word = 32 ∷ word

abbrev pub line_text : Line → List ℕ
line_text words = join_with_byte 32 words ++ 10 ∷ []

abbrev pub text_of : List Line → List ℕ
text_of = flat_map line_text
