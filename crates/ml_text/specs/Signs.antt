-- Signs: the tokens of a text as a grammar sees them. What all logics have is said here once; a logic adds signs of its own,
-- as words that it reserves and as bytes.
--
-- A word is a constant, a sign of the logic, or a name with its bytes: one that begins with a lower-case letter and isn't
-- reserved, or one that begins with an upper-case letter. A byte that is a token by itself is a parenthesis or a sign of the
-- logic, or it is in no text.
--
--   OwnSigns X          == what a logic adds: its words and its bytes, each with its sign, and which signs are parentheses
--   word_in, byte_in    == the sign of a word, and of a byte, in such a table
--   is_reserved own w   == is w a word of a constant, or of the logic?
--   is_proposition own w == a word that begins with a lower-case letter and isn't reserved
--   is_upper_word w     == a word that begins with an upper-case letter
--   name_of s           == the name of a sign that has one
--   word_sign own w     == the sign that a word is
--   byte_sign own b     == the sign that a byte is that is a token by itself
--   sign_of own t bytes == the sign that a token with these bytes is
--   bracket_of own s    == which parenthesis a sign is
use Rattle.std.specs.Prelude.{ℕ, ◌==◌, ◌&&◌, Bool, not, List, [], ◌∷◌, Option, Some, None, if◌then◌else◌, bytes_eq, codes}
use Rattle.std.specs.List.{list_any}
use Rattle.ml_text.specs.Bytes.{is_lower, is_upper}
use Rattle.ml_text.specs.Words.{constant_of, is_word_from}
use Rattle.ml_text.specs.declared.limits.Bracket.{Bracket}
use Rattle.ml_text.specs.declared.limits.Bracket.TheVariants.{Opening, Closing, Neither}
use Rattle.ml_text.specs.declared.token.Token.{Token}
use Rattle.ml_text.specs.declared.token.Token.TheVariants as token
use Rattle.ml_text.specs.declared.token.WordStart.{WordStart}
use Rattle.ml_text.specs.declared.named_signs.Sign.{Sign}
use Rattle.ml_text.specs.declared.named_signs.Sign.TheVariants.{Not, Connective, Const, Open, Close, Lower, Upper, Added, Unknown}

pub record OwnSigns (X : Type 0) : Type 0 where
  -- which letters begin a word
  pub starts : WordStart
  pub words : List (List ℕ × X)
  pub bytes : List (ℕ × X)
  pub bracket : X → Bracket

-- a sign with its name
abbrev pub Named : Type 0 → Type 0
Named X = Sign (List ℕ) X

-- ---- words

abbrev pub word_in : {X : Type 0} → List (List ℕ × X) → List ℕ → Option X
word_in [] w = None
word_in (x ∷ table) w = if bytes_eq w x.0 then Some x.1 else word_in table w

abbrev pub words_of : {X : Type 0} → List (List ℕ × X) → List (List ℕ)
words_of [] = []
words_of (x ∷ table) = x.0 ∷ words_of table

-- the words of the constants, and those of the logic
abbrev pub reserved : {X : Type 0} → OwnSigns X → List (List ℕ)
reserved own = codes "tt" ∷ codes "true" ∷ codes "ff" ∷ codes "false" ∷ words_of own.words

abbrev pub is_reserved : {X : Type 0} → OwnSigns X → List ℕ → Bool
is_reserved own w = list_any (bytes_eq w) (reserved own)

abbrev pub is_proposition : {X : Type 0} → OwnSigns X → List ℕ → Bool
is_proposition own w = is_word_from is_lower w && not (is_reserved own w)

abbrev pub is_upper_word : List ℕ → Bool
is_upper_word w = is_word_from is_upper w

abbrev pub name_sign : {X : Type 0} → OwnSigns X → List ℕ → Named X
name_sign own w = if is_proposition own w then Lower w else (if is_upper_word w then Upper w else Unknown)

abbrev pub own_or : {X : Type 0} → Option X → Named X → Named X
own_or (Some x) s = Added x
own_or None s = s

abbrev pub word_sign_by : {X : Type 0} → OwnSigns X → Option Bool → List ℕ → Named X
word_sign_by own (Some b) w = Const b
word_sign_by own None w = own_or (word_in own.words w) (name_sign own w)

abbrev pub word_sign : {X : Type 0} → OwnSigns X → List ℕ → Named X
word_sign own w = word_sign_by own (constant_of w) w

-- ---- bytes

abbrev pub byte_in : {X : Type 0} → List (ℕ × X) → ℕ → Option X
byte_in [] b = None
byte_in (x ∷ table) b = if b == x.0 then Some x.1 else byte_in table b

-- ( and ), and those of the logic
abbrev pub byte_sign : {X : Type 0} → OwnSigns X → ℕ → Named X
byte_sign own b = if b == 40 then Open else (if b == 41 then Close else own_or (byte_in own.bytes b) Unknown)

-- ---- tokens

abbrev pub sign_of : {X : Type 0} → OwnSigns X → Token → List ℕ → Named X
sign_of own token.Not bytes = Not
sign_of own (token.Operator o) bytes = Connective o
sign_of own token.Word bytes = word_sign own bytes
sign_of own (token.Byte b) bytes = byte_sign own b

abbrev pub bracket_of : {N X : Type 0} → OwnSigns X → Sign N X → Bracket
bracket_of own Open = Opening
bracket_of own Close = Closing
bracket_of own (Added x) = own.bracket x
bracket_of own _ = Neither

abbrev pub name_of : {X : Type 0} → Named X → Option (List ℕ)
name_of (Lower p) = Some p
name_of (Upper x) = Some x
name_of _ = None
