-- What one answer of the scanner says of the bytes of the text. Callers read the bytes of a token as a slice of the
-- text; here such a slice is known to be a word, a sign or one byte.
--
--   slice text p == the bytes of the token p, as the program slices them
use Rattle.std.proofs.Common.{◌≡◌, ℕ, ◌+◌, ◌-◌, ◌<◌, List, [], ◌∷◌, length, take, drop, get_or, sym, ap, ◌∙◌, subst, arith, add-zero, length-take-le, get_or-take, get_or-drop}
use Rattle.ml_text.specs.Words.{IsWordOf}
use Rattle.ml_text.specs.Tokens.{tokens_from}
use Rattle.ml_text.specs.Spelling.{IsSign, Spells, AllBlank, IsNextToken, AreTokens}
use Rattle.ml_text.specs.declared.token.Operator.{Operator}
use Rattle.ml_text.specs.declared.token.Token.TheVariants as token
use Rattle.ml_text.specs.declared.token.WordStart.{WordStart}
use Rattle.ml_text.specs.declared.token.Placed.{Placed}
use Rattle.ml_text.proofs.Cover.{are_tokens, are_tokens-only}

abbrev pub slice : List ℕ → Placed → List ℕ
slice text p = take (p.end - p.start) (drop p.start text)

-- the first of the tokens from a byte on, and the others
pub first_is_next : (w : WordStart) (text : List ℕ) (i : ℕ) (p : Placed) (ps : List Placed)
    → tokens_from w text i ≡ p ∷ ps
    → IsNextToken w text i p
first_is_next w text i p ps is = (subst (AreTokens w text i) is (are_tokens w text i)).0

pub others_from_end : (w : WordStart) (text : List ℕ) (i : ℕ) (p : Placed) (ps : List Placed)
    → tokens_from w text i ≡ p ∷ ps
    → ps ≡ tokens_from w text p.end
others_from_end w text i p ps is =
    are_tokens-only w text p.end ps (subst (AreTokens w text i) is (are_tokens w text i)).1

-- no token is left exactly if only blanks are
pub none_left-blank : (w : WordStart) (text : List ℕ) (i : ℕ)
    → tokens_from w text i ≡ []
    → AllBlank text i (length text)
none_left-blank w text i is = subst (AreTokens w text i) is (are_tokens w text i)

pub blank-none_left : (w : WordStart) (text : List ℕ) (i : ℕ)
    → AllBlank text i (length text)
    → tokens_from w text i ≡ []
blank-none_left w text i blank = sym (are_tokens-only w text i [] blank)

module _ (w : WordStart) (text : List ℕ) (i : ℕ) (p : Placed) (next : IsNextToken w text i p) where
  pub slice_spells : Spells w (slice text p) p.token
  slice_spells = next.longest.spells

  pub slice_length : length (slice text p) ≡ p.end - p.start
  slice_length = length-take-le (p.end - p.start) (drop p.start text) next.longest.fits

  -- a word, with its first letter as `begins_word` says
  pub slice_word : p.token ≡ token.Word → IsWordOf w (slice text p)
  slice_word is = subst (Spells w (slice text p)) is slice_spells

  pub slice_not : p.token ≡ token.Not → IsSign (slice text p) token.Not
  slice_not is = subst (Spells w (slice text p)) is slice_spells

  pub slice_operator : (o : Operator) → p.token ≡ token.Operator o → IsSign (slice text p) (token.Operator o)
  slice_operator o is = subst (Spells w (slice text p)) is slice_spells

  -- one byte
  pub slice_byte : (b : ℕ) → p.token ≡ token.Byte b → slice text p ≡ b ∷ []
  slice_byte b is = (subst (Spells w (slice text p)) is slice_spells).0

  pub byte_end : (b : ℕ) → p.token ≡ token.Byte b → p.end ≡ p.start + 1
  byte_end b is = omega (arith, ap length (slice_byte b is), slice_length, next.some)

  pub byte_at : (b : ℕ) → p.token ≡ token.Byte b → get_or text p.start 0 ≡ b
  byte_at b is =
      let inside : 0 < p.end - p.start = omega (arith, next.some) in
      ap (λ k. get_or text k 0) (sym (add-zero p.start))
      ∙ sym (get_or-drop p.start text 0 0)
      ∙ sym (get_or-take (p.end - p.start) (drop p.start text) 0 0 inside)
      ∙ ap (λ l. get_or l 0 0) (slice_byte b is)
