-- The tokens of a game text.
--
-- A text is a list of bytes. Blanks (space, tab, CR, LF) separate tokens and mean nothing else. The longest token is taken;
-- a byte that begins no token is a token of its own, which the grammar has nowhere. A `"` begins a name only if a `"`
-- closes it before the next LF and before the end of the text. So each byte that is no blank belongs to exactly one token.
-- A token is known by the bytes that spell it.
--
--   Token                == a number by its digits, a name by the bytes between its quotes, `parity`, `,`, `;`, another byte
--   spelling t           == the bytes that spell t
--   front_token b rest   == the longest token at the front of the text b, rest, whose first byte is no blank
--   Placed               == a token with the place of its first byte
--   tokens_at k i text   == the tokens of a text whose first byte stands at the place i, where its first k bytes belong to a
--                           token before it
--   tokens text          == the tokens of the whole text
--   signs_of ps          == tokens without their places
use Rattle.std.specs.Prelude.{ℕ, ◌+◌, ◌-◌, zero, suc, Bool, ◌==◌, ◌||◌, not, nat_eq, List, [], ◌∷◌, ◌++◌, length, map, drop, if◌then◌else◌, codes}
use Rattle.std.specs.List.{starts_with, take_while}
use Rattle.ml_text.specs.Bytes.{is_blank, is_digit}

pub data Token : Type 0 where
  Number : List ℕ → Token
  Name : List ℕ → Token
  Parity Comma Semicolon : Token
  Stray : ℕ → Token

-- 34 is `"`, 44 `,`, 59 `;`
abbrev pub spelling : Token → List ℕ
spelling (Number digits) = digits
spelling (Name inner) = 34 ∷ (inner ++ 34 ∷ [])
spelling Parity = codes "parity"
spelling Comma = 44 ∷ []
spelling Semicolon = 59 ∷ []
spelling (Stray b) = b ∷ []

-- may this byte stand between the quotes of a name? Not `"` and not LF
abbrev pub is_inner : ℕ → Bool
is_inner b = not ((b == 34) || (b == 10))

-- the token that begins with a `"`, by what stands behind it
abbrev pub quoted : List ℕ → Token
quoted rest =
    let inner = take_while is_inner rest in
    if starts_with nat_eq (drop (length inner) rest) (34 ∷ []) then Name inner else Stray 34

abbrev pub front_token : ℕ → List ℕ → Token
front_token b rest =
    if is_digit b then Number (b ∷ take_while is_digit rest)
    else if b == 34 then quoted rest
    else if b == 44 then Comma
    else if b == 59 then Semicolon
    else if starts_with nat_eq (b ∷ rest) (codes "parity") then Parity
    else Stray b

pub record Placed : Type 0 where
  pub token : Token
  pub at : ℕ

unfoldable pub tokens_at : ℕ → ℕ → List ℕ → List Placed
tokens_at k i [] = []
tokens_at (suc k) i (b ∷ rest) = tokens_at k (i + 1) rest
tokens_at zero i (b ∷ rest) =
    if is_blank b then tokens_at 0 (i + 1) rest
    else
    let token = front_token b rest in
    record { token = token; at = i } ∷ tokens_at (length (spelling token) - 1) (i + 1) rest

unfoldable pub tokens : List ℕ → List Placed
tokens text = tokens_at 0 0 text

abbrev pub signs_of : List Placed → List Token
signs_of ps = map (λ p. p.token) ps
