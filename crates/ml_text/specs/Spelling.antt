-- What the tokens of a text are, in words that name no scanner: which bytes spell which token, which front of a
-- text is its longest token, and when tokens are those of a text.
--
-- A byte that is no blank, begins no word and is no sign spells itself. So bytes spell one token at most, every text
-- that begins with no blank begins with a token, and the longest is one.
--
--   Spells w bytes token          == the bytes are a spelling of the token
--   IsSign bytes t                == the bytes are a spelling of the sign t
--   IsLongestToken w text token n == the first n bytes of the text spell the token, and no longer front of it spells any
--   AllBlank text i j             == from the byte i on, up to the byte j, the text has only blanks
--   IsNextToken w text i p        == blanks stand between the byte i and the token p, which is the longest at its place
--   AreTokens w text i ps         == these tokens follow one another from the byte i on, and only blanks are left
--   lies_in k p                   == the byte k is one of the token's
--   tokens_over ps k              == in how many of these tokens the byte k lies
use Rattle.std.specs.Prelude.{◌≡◌, ℕ, ◌-◌, ◌<◌, ◌≤◌, Bool, true, false, ◌&&◌, nat_le, nat_lt, List, [], ◌∷◌, length, take, drop, slice_index, Contains, count_by}
use Rattle.ml_text.specs.Bytes.{is_blank}
use Rattle.ml_text.specs.Words.{IsWordOf}
use Rattle.ml_text.specs.Tokens.{begins_word, signs}
use Rattle.ml_text.specs.declared.token.Token.{Token}
use Rattle.ml_text.specs.declared.token.Token.TheVariants as token
use Rattle.ml_text.specs.declared.token.WordStart.{WordStart}
use Rattle.ml_text.specs.declared.token.Placed.{Placed}

abbrev pub IsSign : List ℕ → Token → Type 0
IsSign bytes t = Contains signs (bytes, t)

abbrev pub Spells : WordStart → List ℕ → Token → Type 0
Spells w bytes token.Word = IsWordOf w bytes
Spells w bytes token.Not = IsSign bytes token.Not
Spells w bytes (token.Operator o) = IsSign bytes (token.Operator o)
Spells w bytes (token.Byte b) =
    (bytes ≡ b ∷ []) × (is_blank b ≡ false) × (begins_word w b ≡ false) × ((t : Token) → IsSign bytes t → ⊥)

pub record IsLongestToken (w : WordStart) (text : List ℕ) (t : Token) (n : ℕ) : Type 0 where
  pub fits : n ≤ length text
  pub spells : Spells w (take n text) t
  pub longest : (m : ℕ) (u : Token) → m ≤ length text → Spells w (take m text) u → m ≤ n

abbrev pub AllBlank : List ℕ → ℕ → ℕ → Type 0
AllBlank text i j = (k : ℕ) → i ≤ k → k < j → is_blank (slice_index text k) ≡ true

pub record IsNextToken (w : WordStart) (text : List ℕ) (i : ℕ) (p : Placed) : Type 0 where
  pub behind : i ≤ p.start
  pub blanks : AllBlank text i p.start
  pub some : p.start < p.end
  pub fits : p.end ≤ length text
  pub longest : IsLongestToken w (drop p.start text) p.token (p.end - p.start)

abbrev pub AreTokens : WordStart → List ℕ → ℕ → List Placed → Type 0
AreTokens w text i [] = AllBlank text i (length text)
AreTokens w text i (p ∷ ps) = IsNextToken w text i p × AreTokens w text p.end ps

abbrev pub lies_in : ℕ → Placed → Bool
lies_in k p = nat_le p.start k && nat_lt k p.end

abbrev pub tokens_over : List Placed → ℕ → ℕ
tokens_over ps k = count_by (lies_in k) ps
