-- Documents read line by line.
--
-- A text is cut at each LF, and each line at each blank. What stands behind the last LF is no line: a line without its
-- LF is missing. A line that is cut so has at least one word; so the line of no words can stand for a line that is
-- missing. Two blanks side by side, and a blank at either end of a line, make a word without bytes, which no kind of
-- line has. Every byte but the blank and the LF is a byte of a word like any other, a CR and a tab too.
--
--   words_of bytes     == the words of a line: what stands before, between and behind its blanks
--   words_behind rest  == the words behind a blank, where there is one
--   lines_of text      == the lines of a text, each as its words
--   left_of text       == what stands behind the last LF of a text
--   is_word w          == has w at least one byte?
--   AreWords ws        == each of ws has
--   IsNumber w         == w spells a number from 0 to 4,294,967,295, in decimal and without leading zeros
--   value w            == the number that the digits of w are
--   word ws i          == the i-th word of a line, from 0 on
--   IsWordBehind w ws  == a line is the word w and one more, and both have bytes
--   IsTextBehind w ws  == a line is the word w, a blank, and anything
use Rattle.std.specs.Prelude.{ℕ, ◌+◌, ◌-◌, ◌*◌, ◌^◌, ◌<◌, ◌≡◌, ◌==◌, Bool, true, false, List, [], ◌∷◌, Option, None, Some, map, slice_index_or, IsTrue}
use Rattle.std.specs.List.{list_all, slice_split}
use Rattle.ml_lines.specs.Lines.{Word, Line, number}

-- 32 is the blank, 10 the LF
abbrev pub is_blank : ℕ → Bool
is_blank b = b == 32

abbrev pub is_line_end : ℕ → Bool
is_line_end b = b == 10

abbrev pub words_of : List ℕ → Line
words_of = slice_split is_blank

abbrev pub words_behind : Option (List ℕ) → Line
words_behind None = []
words_behind (Some rest) = words_of rest

-- all parts but the last
abbrev pub fronts : List (List ℕ) → List (List ℕ)
fronts [] = []
fronts (part ∷ []) = []
fronts (part ∷ second ∷ parts) = part ∷ fronts (second ∷ parts)

abbrev pub last_part : List (List ℕ) → List ℕ
last_part [] = []
last_part (part ∷ []) = part
last_part (part ∷ second ∷ parts) = last_part (second ∷ parts)

abbrev pub lines_of : List ℕ → List Line
lines_of text = map words_of (fronts (slice_split is_line_end text))

abbrev pub left_of : List ℕ → List ℕ
left_of text = last_part (slice_split is_line_end text)

abbrev pub is_word : Word → Bool
is_word [] = false
is_word (b ∷ bs) = true

abbrev pub AreWords : Line → Type 0
AreWords words = IsTrue (list_all is_word words)

abbrev pub IsNumber : Word → Type 0
IsNumber w = (n : ℕ) × (n < 2 ^ 32) × (w ≡ number n)

-- the number whose digits are those of n, and then those of a word
abbrev pub value_on : ℕ → Word → ℕ
value_on n [] = n
value_on n (c ∷ cs) = value_on (10 * n + (c - 48)) cs

abbrev pub value : Word → ℕ
value w = value_on 0 w

abbrev pub word : Line → ℕ → Word
word words i = slice_index_or words i []

abbrev pub IsWordBehind : Word → Line → Type 0
IsWordBehind fixed words = AreWords words × (words ≡ fixed ∷ word words 1 ∷ [])

abbrev pub IsTextBehind : Word → Line → Type 0
IsTextBehind fixed words = (w : Word) × (ws : Line) × (words ≡ fixed ∷ w ∷ ws)
