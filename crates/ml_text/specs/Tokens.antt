-- The tokens of a text.
--
-- A text is a list of bytes. Blanks separate tokens and mean nothing else; the longest token is taken. Every byte
-- that is no blank belongs to exactly one token, since a byte that begins neither a word nor a sign is a token by
-- itself: the brackets and signs that only some logics have are such bytes, and so are those that no logic has.
-- The logics differ only in the letters that begin a word: in some every letter, in the others a lower-case one.
--
--   begins_word w b        == the byte b begins a word where words begin as w says
--   spelt t ws             == these spellings, each with the token t
--   signs                  == the spellings of all signs that are not single bytes of one logic, each with its token
--   longest_sign es text   == the longest of the spellings es with which the text begins, as its token and its length
--   front_token w b rest   == the longest token at the front of the text b, rest, whose first byte is no blank, and its length
--   tokens_from w text i   == the tokens of the text from the byte i on, each with its place
--   tokens w text          == the tokens of the whole text
use Rattle.std.specs.Prelude.{ℕ, ◌+◌, zero, suc, Bool, true, ◌&&◌, nat_lt, nat_eq, List, [], ◌∷◌, ◌++◌, map, codes, length, drop, Option, Some, None, unwrap_or, if◌then◌else◌}
use Rattle.std.specs.List.{starts_with, take_while}
use Rattle.ml_text.specs.Bytes.{is_blank, is_letter, is_lower, is_word_byte}
use Rattle.ml_text.specs.declared.token.Operator.TheVariants as operator
use Rattle.ml_text.specs.declared.token.Token.{Token}
use Rattle.ml_text.specs.declared.token.Token.TheVariants as token
use Rattle.ml_text.specs.declared.token.WordStart.{WordStart}
use Rattle.ml_text.specs.declared.token.WordStart.TheVariants.{AnyLetter, LowerCase}
use Rattle.ml_text.specs.declared.token.Placed.{Placed}

-- does this byte begin a word?
abbrev pub begins_word : WordStart → ℕ → Bool
begins_word AnyLetter b = is_letter b
begins_word LowerCase b = is_lower b

-- !, ~; &, &&, /\; |, ||, \/; ->, =>, ==>; <->, <=>, <==>
abbrev pub spelt : Token → List (List ℕ) → List (List ℕ × Token)
spelt token spellings = map (λ s. (s, token)) spellings

unfoldable pub signs : List (List ℕ × Token)
signs =
    spelt token.Not (codes "!" ∷ codes "~" ∷ [])
    ++ spelt (token.Operator operator.And) (codes "&" ∷ codes "&&" ∷ (47 ∷ 92 ∷ []) ∷ [])
    ++ spelt (token.Operator operator.Or) (codes "|" ∷ codes "||" ∷ (92 ∷ 47 ∷ []) ∷ [])
    ++ spelt (token.Operator operator.Implies) (codes "->" ∷ codes "=>" ∷ codes "==>" ∷ [])
    ++ spelt (token.Operator operator.Iff) (codes "<->" ∷ codes "<=>" ∷ codes "<==>" ∷ [])

-- is this spelling longer than the best one so far?
abbrev pub is_longer : List ℕ × Token → Option (Token × ℕ) → Bool
is_longer e None = true
is_longer e (Some best) = nat_lt best.1 (length e.0)

-- the longest of these spellings with which the text begins
unfoldable pub longest_sign : List (List ℕ × Token) → List ℕ → Option (Token × ℕ)
longest_sign [] text = None
longest_sign (e ∷ es) text =
    let best = longest_sign es text in
    if starts_with nat_eq text e.0 && is_longer e best then Some (e.1, length e.0) else best

-- the longest token at the front of a text that begins with no blank
unfoldable pub front_token : WordStart → ℕ → List ℕ → Token × ℕ
front_token w b rest =
    if begins_word w b
    then (token.Word, 1 + length (take_while is_word_byte rest))
    else unwrap_or (longest_sign signs (b ∷ rest)) (token.Byte b, 1)

-- the tokens of a text whose first byte stands at this place; the first number bounds the length of the text
unfoldable pub tokens_at : ℕ → WordStart → ℕ → List ℕ → List Placed
tokens_at zero w i text = []
tokens_at (suc n) w i [] = []
tokens_at (suc n) w i (b ∷ rest) =
    if is_blank b then tokens_at n w (i + 1) rest
    else
    let front = front_token w b rest in
    record { token = front.0; start = i; end = i + front.1 }
    ∷ tokens_at n w (i + front.1) (drop front.1 (b ∷ rest))

unfoldable pub tokens_from : WordStart → List ℕ → ℕ → List Placed
tokens_from w text i = tokens_at (length text) w i (drop i text)

unfoldable pub tokens : WordStart → List ℕ → List Placed
tokens w text = tokens_from w text 0
