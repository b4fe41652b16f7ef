-- The tokens of an automaton text.
--
-- A text is a list of bytes. Blanks (space, tab, CR, LF) and comments separate tokens and mean nothing else. A comment runs
-- from `/*` to the `*/` that closes it; comments nest, and inside of one only `/*` and `*/` count, read from the left
-- without overlap. Where none closes it, a `/*` is with all that follows one token, which the grammar has nowhere. A string
-- stands between `"`, and in it a `\` takes the next byte as it is. A word is a letter, and then letters, digits, `_` and
-- `-`; with a `:` right behind it, it is a header name. The longest token is taken, and a byte that begins none is a token
-- of its own. A number is known by its digits, and by the byte at which it begins, since it may be refused for what the
-- whole text says; a string is known by the bytes between its quotes, as they stand; of the others the grammar knows the
-- mark alone.
--
--   Token                  == a number with its place, a string, or a mark
--   word_mark w, name_mark w == the mark of a word, and of a header name without its `:`
--   byte_mark b            == the mark of a byte that is a token by itself
--   closing_quote e k text == k, and how many bytes stand before the `"` that closes a string, if one does; does a `\` take
--                             the first byte?
--   closing_comment n k text == k, and how many bytes close a comment in which n more are open, if they do
--   Piece                  == what stands at the front of a text: a token, or a blank or a comment; with its length
--   front_piece i b text   == the piece at the front of the text, whose first byte is b and stands at the place i
--   Placed                 == a token with the place of its first byte
--   tokens_at k i text     == the tokens of a text whose first byte stands at the place i, where its first k bytes belong to a
--                             piece before it
--   tokens text            == the tokens of the whole text
--   signs_of ps            == tokens without their places
use Rattle.std.specs.Prelude.{ℕ, ◌+◌, ◌-◌, zero, suc, Bool, false, ◌==◌, ◌||◌, ◌&&◌, not, nat_eq, List, [], ◌∷◌, ◌++◌, length, map, take, drop, Option, Some, None, if◌then◌else◌, codes, bytes_eq}
use Rattle.std.specs.List.{starts_with, take_while}
use Rattle.ml_text.specs.Bytes.{is_blank, is_digit, is_letter, is_lower, is_word_byte}
use Rattle.ml_hoa.specs.declared.token.Mark.{Mark}
use Rattle.ml_hoa.specs.declared.token.Mark.TheVariants as mark

pub data Token : Type 0 where
  Number : List ℕ → ℕ → Token
  Text : List ℕ → Token
  Plain : Mark → Token

-- may this byte stand in a word behind its first letter? 45 is `-`
abbrev pub is_word_part : ℕ → Bool
is_word_part b = is_word_byte b || (b == 45)

abbrev pub word_mark : List ℕ → Mark
word_mark word =
    if bytes_eq word (codes "v1") then mark.Version
    else if bytes_eq word (codes "Inf") then mark.Inf
    else if bytes_eq word (codes "t") then mark.Truth
    else if bytes_eq word (codes "f") then mark.Falsity
    else mark.Word

-- a name that begins with a lower-case letter is one that the grammar ignores
abbrev pub other_name : List ℕ → Mark
other_name [] = mark.Foreign
other_name (b ∷ bs) = if is_lower b then mark.Ignored else mark.Foreign

abbrev pub known_name : List ℕ → Option Mark
known_name name =
    if bytes_eq name (codes "HOA") then Some mark.Hoa
    else if bytes_eq name (codes "States") then Some mark.States
    else if bytes_eq name (codes "Start") then Some mark.Start
    else if bytes_eq name (codes "AP") then Some mark.Props
    else if bytes_eq name (codes "Acceptance") then Some mark.Acceptance
    else if bytes_eq name (codes "State") then Some mark.State
    else None

abbrev pub known_or : Mark → Option Mark → Mark
known_or other None = other
known_or other (Some m) = m

abbrev pub name_mark : List ℕ → Mark
name_mark name = known_or (other_name name) (known_name name)

-- the bytes are those of `{}[]()!&|`
abbrev pub byte_mark : ℕ → Mark
byte_mark b =
    if b == 123 then mark.LeftBrace
    else if b == 125 then mark.RightBrace
    else if b == 91 then mark.LeftBracket
    else if b == 93 then mark.RightBracket
    else if b == 40 then mark.LeftParen
    else if b == 41 then mark.RightParen
    else if b == 33 then mark.Not
    else if b == 38 then mark.And
    else if b == 124 then mark.Or
    else mark.Stray

-- 34 is `"`, 92 is `\`
abbrev pub closing_quote : Bool → ℕ → List ℕ → Option ℕ
closing_quote taken k [] = None
closing_quote taken k (b ∷ rest) =
    if not taken && (b == 34) then Some k else closing_quote (not taken && (b == 92)) (k + 1) rest

-- 47 is `/`, 42 is `*`
abbrev pub closing_comment : ℕ → ℕ → List ℕ → Option ℕ
closing_comment n k [] = None
closing_comment n k (b ∷ []) = None
closing_comment n k (b ∷ c ∷ rest) =
    if (b == 42) && (c == 47) then (if n == 0 then Some (k + 2) else closing_comment (n - 1) (k + 2) rest)
    else if (b == 47) && (c == 42) then closing_comment (n + 1) (k + 2) rest
    else closing_comment n (k + 1) (c ∷ rest)

pub record Piece : Type 0 where
  pub token : Option Token
  pub size : ℕ

abbrev pub gap : ℕ → Piece
gap size = record { token = None; size = size }

abbrev pub piece : Token → ℕ → Piece
piece t size = record { token = Some t; size = size }

abbrev pub number_piece : ℕ → List ℕ → Piece
number_piece i digits = piece (Number digits i) (length digits)

-- what begins with a letter
abbrev pub worded : List ℕ → Piece
worded text =
    let word = take_while is_word_part text in
    let size = length word in
    if starts_with nat_eq (drop size text) (codes ":") then piece (Plain (name_mark word)) (size + 1)
    else piece (Plain (word_mark word)) size

-- what begins with a `"`, by what stands behind it
abbrev pub quoted : List ℕ → Option ℕ → Piece
quoted rest None = piece (Plain mark.Stray) 1
quoted rest (Some size) = piece (Text (take size rest)) (size + 2)

-- what begins with `/*`, by the length of the text
abbrev pub commented : ℕ → Option ℕ → Piece
commented all None = piece (Plain mark.Unclosed) all
commented all (Some size) = gap (size + 2)

abbrev pub marked : ℕ → List ℕ → Piece
marked b text =
    if starts_with nat_eq text (codes "--BODY--") then piece (Plain mark.Body) 8
    else if starts_with nat_eq text (codes "--END--") then piece (Plain mark.End) 7
    else piece (Plain (byte_mark b)) 1

abbrev pub front_piece : ℕ → ℕ → List ℕ → Piece
front_piece i b text =
    if is_blank b then gap 1
    else if is_digit b then number_piece i (take_while is_digit text)
    else if is_letter b then worded text
    else if b == 34 then quoted (drop 1 text) (closing_quote false 0 (drop 1 text))
    else if starts_with nat_eq text (codes "/*") then commented (length text) (closing_comment 0 0 (drop 2 text))
    else marked b text

pub record Placed : Type 0 where
  pub token : Token
  pub at : ℕ

abbrev pub placed : Option Token → ℕ → List Placed
placed None i = []
placed (Some t) i = record { token = t; at = i } ∷ []

unfoldable pub tokens_at : ℕ → ℕ → List ℕ → List Placed
tokens_at k i [] = []
tokens_at (suc k) i (b ∷ rest) = tokens_at k (i + 1) rest
tokens_at zero i (b ∷ rest) =
    let front = front_piece i b (b ∷ rest) in
    placed front.token i ++ tokens_at (front.size - 1) (i + 1) rest

unfoldable pub tokens : List ℕ → List Placed
tokens text = tokens_at 0 0 text

abbrev pub signs_of : List Placed → List Token
signs_of ps = map (λ p. p.token) ps
