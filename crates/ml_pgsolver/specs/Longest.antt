-- What tokens are, in words that name no scanner: a token of the grammar with which a text begins, and the longest such.
--
--   IsProper t           == t is a token of the grammar: a number has digits alone and has one, a name has neither `"` nor LF
--   BeginsWith text t    == the text begins with the bytes that spell t
--   IsLongest text t     == so it does, and with no longer token of the grammar; t is a stray byte only where it begins with
--                           none
--   FrontIsLongest       == the token at the front of a text is the longest one
use Rattle.std.specs.Prelude.{ℕ, ◌≡◌, ◌<◌, ◌≤◌, true, List, ◌∷◌, ◌++◌, length, All}
use Rattle.ml_text.specs.Bytes.{is_digit}
use Rattle.ml_pgsolver.specs.Tokens.{Token, Number, Name, Parity, Comma, Semicolon, Stray, spelling, is_inner, front_token}

abbrev pub IsProper : Token → Type 0
IsProper (Number digits) = (0 < length digits) × All (λ b. is_digit b ≡ true) digits
IsProper (Name inner) = All (λ b. is_inner b ≡ true) inner
IsProper Parity = Unit {0}
IsProper Comma = Unit {0}
IsProper Semicolon = Unit {0}
IsProper (Stray b) = ⊥

abbrev pub BeginsWith : List ℕ → Token → Type 0
BeginsWith text t = (rest : List ℕ) × (text ≡ spelling t ++ rest)

pub record IsLongest (text : List ℕ) (t : Token) : Type 0 where
  pub begins : BeginsWith text t
  pub longest : (u : Token) → IsProper u → BeginsWith text u → IsProper t × (length (spelling u) ≤ length (spelling t))

abbrev pub FrontIsLongest : Type 0
FrontIsLongest = (b : ℕ) (rest : List ℕ) → IsLongest (b ∷ rest) (front_token b rest)
