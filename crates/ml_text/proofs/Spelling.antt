-- What is known of the bytes of a token: there is at least one, none is a blank, and they spell no other token.
--
--   read_sign es bytes == the token of the first of these spellings that is these bytes
--   reading w bytes    == the token that the bytes spell, if they spell any
use Rattle.std.proofs.Common.{◌≡◌, ℕ, ◌<◌, Bool, true, false, cond, not, List, [], ◌∷◌, length, Option, Some, None, unwrap_or, All, Contains, bytes_eq, sym, refl, ap, ◌∙◌, subst, ⊎_elim, arith}
use Rattle.std.specs.List.{list_all}
use Rattle.std.proofs.lemmas.Bool.{cases_Bool, cond-true, cond-false, not-true, false≢true, both_ways}
use Rattle.std.proofs.lemmas.List.Elements.{All-contains, All-from_recursion, All-cons, All-nil, All-weaker}
use Rattle.std.proofs.lemmas.List.Sums.{AllPass-from_list_all}
use Rattle.std.proofs.lemmas.Slice.Eq.{bytes_eq-Decides}
use Rattle.ml_text.specs.Bytes.{is_blank, is_letter, is_word_byte}
use Rattle.ml_text.specs.Words.{IsWordOf}
use Rattle.ml_text.specs.Tokens.{begins_word, signs}
use Rattle.ml_text.specs.Spelling.{IsSign, Spells}
use Rattle.ml_text.specs.declared.token.Token.{Token}
use Rattle.ml_text.specs.declared.token.Token.TheVariants as token
use Rattle.ml_text.specs.declared.token.WordStart.{WordStart}
use Rattle.ml_text.proofs.ByteKinds.{begins_word-letter, begins_word-no_blank, word_byte-no_blank}
use Rattle.ml_lists.proofs.Members.{contains_head, contains_later}

-- the table of signs has only signs, none has an empty spelling, begins with a letter or has a blank
is_sign : Token → Bool
is_sign token.Not = true
is_sign (token.Operator o) = true
is_sign token.Word = false
is_sign (token.Byte b) = false

begins_no_letter : List ℕ → Bool
begins_no_letter [] = false
begins_no_letter (b ∷ rest) = not (is_letter b)

no_blanks : List ℕ → Bool
no_blanks bytes = list_all (λ b. not (is_blank b)) bytes

pub signs_all : (p : List ℕ × Token → Bool)
    → list_all p signs ≡ true
    → (bytes : List ℕ) (t : Token)
    → IsSign bytes t
    → p (bytes, t) ≡ true
signs_all p holds bytes t sign =
    All-contains (λ e. p e ≡ true) signs (bytes, t) (AllPass-from_list_all p signs holds) sign

signs_only : (bytes : List ℕ) (t : Token) → IsSign bytes t → is_sign t ≡ true
unfolding signs is_sign
signs_only = signs_all (λ e. is_sign e.1) refl

signs_no_letter : (bytes : List ℕ) (t : Token) → IsSign bytes t → begins_no_letter bytes ≡ true
unfolding signs begins_no_letter
signs_no_letter = signs_all (λ e. begins_no_letter e.0) refl

signs_no_blanks : (bytes : List ℕ) (t : Token) → IsSign bytes t → no_blanks bytes ≡ true
unfolding signs no_blanks
signs_no_blanks = signs_all (λ e. no_blanks e.0) refl

-- no sign is a word or begins as one
pub sign-no_word : (w : WordStart) (b : ℕ) (rest : List ℕ) (t : Token)
    → IsSign (b ∷ rest) t
    → begins_word w b ≡ true
    → ⊥
unfolding begins_no_letter
sign-no_word w b rest t sign begins =
    both_ways (is_letter b) (not-true (is_letter b) (signs_no_letter (b ∷ rest) t sign)) (begins_word-letter w b begins)

-- the entries of the table spell their tokens
pub sign-spells : (w : WordStart) (bytes : List ℕ) (t : Token) → IsSign bytes t → Spells w bytes t
unfolding is_sign
sign-spells w bytes token.Not sign = sign
sign-spells w bytes (token.Operator o) sign = sign
sign-spells w bytes token.Word sign = absurd (false≢true (signs_only bytes token.Word sign))
sign-spells w bytes (token.Byte b) sign = absurd (false≢true (signs_only bytes (token.Byte b) sign))

-- what holds of words, of signs and of single bytes holds of all tokens
pub record IsByte (w : WordStart) (bytes : List ℕ) (b : ℕ) : Type 0 where
  pub alone : bytes ≡ b ∷ []
  pub no_blank : is_blank b ≡ false
  pub no_word : begins_word w b ≡ false
  pub no_sign : (t : Token) → IsSign bytes t → ⊥

pub spells_by : (w : WordStart) (bytes : List ℕ) (P : Token → Type 0)
    → (IsWordOf w bytes → P token.Word)
    → ((t : Token) → IsSign bytes t → P t)
    → ((b : ℕ) → IsByte w bytes b → P (token.Byte b))
    → (t : Token)
    → Spells w bytes t
    → P t
spells_by w bytes P word sign byte token.Word s = word s
spells_by w bytes P word sign byte token.Not s = sign token.Not s
spells_by w bytes P word sign byte (token.Operator o) s = sign (token.Operator o) s
spells_by w bytes P word sign byte (token.Byte b) s = byte b (record {
  alone = s.0;
  no_blank = s.1;
  no_word = s.2;
  no_sign = s.3;
})

begins_no_letter-some : (bytes : List ℕ) → begins_no_letter bytes ≡ true → 0 < length bytes
unfolding begins_no_letter
begins_no_letter-some [] h = absurd (false≢true h)
begins_no_letter-some (b ∷ rest) h = omega arith

word_some : (w : WordStart) (bytes : List ℕ) → IsWordOf w bytes → 0 < length bytes
word_some w [] word = absurd word
word_some w (b ∷ rest) word = omega arith

-- a token has bytes
pub spells-some : (w : WordStart) (bytes : List ℕ) (t : Token) → Spells w bytes t → 0 < length bytes
spells-some w bytes t spells =
    spells_by w bytes (λ _. 0 < length bytes) (word_some w bytes)
    (λ u sign. begins_no_letter-some bytes (signs_no_letter bytes u sign))
    (λ b byte. omega (arith, ap length byte.alone)) t spells

-- no byte of a token is a blank
word_no_blank : (w : WordStart) (bytes : List ℕ) → IsWordOf w bytes → All (λ b. is_blank b ≡ false) bytes
word_no_blank w [] word = absurd word
word_no_blank w (b ∷ rest) word =
    All-cons (λ c. is_blank c ≡ false) b rest (begins_word-no_blank w b word.0)
    (All-weaker (λ c. is_word_byte c ≡ true) (λ c. is_blank c ≡ false) word_byte-no_blank rest word.1)

sign_no_blank : (bytes : List ℕ) (t : Token) → IsSign bytes t → All (λ b. is_blank b ≡ false) bytes
unfolding no_blanks
sign_no_blank bytes t sign =
    All-weaker (λ b. not (is_blank b) ≡ true) (λ b. is_blank b ≡ false) (λ b h. not-true (is_blank b) h) bytes
    (AllPass-from_list_all (λ b. not (is_blank b)) bytes (signs_no_blanks bytes t sign))

pub spells-no_blank : (w : WordStart) (bytes : List ℕ) (t : Token)
    → Spells w bytes t
    → All (λ b. is_blank b ≡ false) bytes
spells-no_blank w bytes t spells =
    spells_by w bytes (λ _. All (λ b. is_blank b ≡ false) bytes) (word_no_blank w bytes) (sign_no_blank bytes)
    (λ b byte. subst (All (λ c. is_blank c ≡ false)) (sym byte.alone)
    (All-cons (λ c. is_blank c ≡ false) b [] byte.no_blank (All-nil (λ c. is_blank c ≡ false))))
    t spells

-- the token of the first entry with these bytes
read_sign : List (List ℕ × Token) → List ℕ → Option Token
read_sign [] bytes = None
read_sign (e ∷ es) bytes = cond (bytes_eq e.0 bytes) (Some e.1) (read_sign es bytes)

reads_itself : (bytes : List ℕ) (t : Token) → IsSign bytes t → read_sign signs bytes ≡ Some t
unfolding read_sign signs
reads_itself bytes t sign =
    All-contains (λ e. read_sign signs e.0 ≡ Some e.1) signs (bytes, t)
    (All-from_recursion (λ e. read_sign signs e.0 ≡ Some e.1) signs (
      refl,
      (
        refl,
        (refl, (refl, (refl, (refl, (refl, (refl, (refl, (refl, (refl, (refl, (refl, (refl, tt)))))))))))),
      ),
    ))
    sign

-- where no entry has these bytes
read_sign-none : (es : List (List ℕ × Token)) (bytes : List ℕ)
    → ((t : Token) → Contains es (bytes, t) → ⊥)
    → read_sign es bytes ≡ None
unfolding read_sign
read_sign-none [] bytes none = refl
read_sign-none (e ∷ es) bytes none =
    ⊎_elim
    (λ (same : bytes_eq e.0 bytes ≡ true).
    absurd (none e.1 (subst (λ x. Contains (e ∷ es) (x, e.1)) ((bytes_eq-Decides e.0 bytes).0 same)
    (contains_head e es))))
    (λ (other : bytes_eq e.0 bytes ≡ false). cond-false (bytes_eq e.0 bytes) (Some e.1) (read_sign es bytes) other
    ∙ read_sign-none es bytes (λ t h. none t (contains_later e es (bytes, t) h)))
    (cases_Bool (bytes_eq e.0 bytes))

no_sign_read : WordStart → List ℕ → Token
no_sign_read w [] = token.Word
no_sign_read w (b ∷ rest) = cond (begins_word w b) token.Word (token.Byte b)

reading : WordStart → List ℕ → Token
reading w bytes = unwrap_or (read_sign signs bytes) (no_sign_read w bytes)

reading-no_sign : (w : WordStart) (bytes : List ℕ)
    → ((t : Token) → IsSign bytes t → ⊥)
    → reading w bytes ≡ no_sign_read w bytes
unfolding reading
reading-no_sign w bytes none = ap (λ o. unwrap_or o (no_sign_read w bytes)) (read_sign-none signs bytes none)

reading-word : (w : WordStart) (bytes : List ℕ) → IsWordOf w bytes → reading w bytes ≡ token.Word
unfolding no_sign_read
reading-word w [] word = absurd word
reading-word w (b ∷ rest) word =
    reading-no_sign w (b ∷ rest) (λ t sign. sign-no_word w b rest t sign word.0)
    ∙ cond-true (begins_word w b) token.Word (token.Byte b) word.0

reading-sign : (w : WordStart) (bytes : List ℕ) (t : Token) → IsSign bytes t → reading w bytes ≡ t
unfolding reading
reading-sign w bytes t sign = ap (λ o. unwrap_or o (no_sign_read w bytes)) (reads_itself bytes t sign)

reading-byte : (w : WordStart) (bytes : List ℕ) (b : ℕ) → IsByte w bytes b → reading w bytes ≡ token.Byte b
unfolding no_sign_read
reading-byte w bytes b byte =
    reading-no_sign w bytes byte.no_sign ∙ ap (no_sign_read w) byte.alone
    ∙ cond-false (begins_word w b) token.Word (token.Byte b) byte.no_word

spells-reading : (w : WordStart) (bytes : List ℕ) (t : Token) → Spells w bytes t → reading w bytes ≡ t
spells-reading w bytes t spells =
    spells_by w bytes (λ u. reading w bytes ≡ u) (reading-word w bytes) (reading-sign w bytes) (reading-byte w bytes) t
    spells

-- bytes spell one token at most
pub spells-one : (w : WordStart) (bytes : List ℕ) (t u : Token) → Spells w bytes t → Spells w bytes u → t ≡ u
spells-one w bytes t u first second = sym (spells-reading w bytes t first) ∙ spells-reading w bytes u second
