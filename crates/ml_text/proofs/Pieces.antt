-- The pieces of which printed texts are made are tokens where they stand, in every logic.
--
--   lone b           == the byte b as a token by itself
--   begins_sign b    == does a sign begin with the byte b?
--   is_lone w b      == is the byte b a token by itself, whatever follows?
--   lone_piece       == such a byte is one
--   less_piece       == so is `<`, where neither `-` nor `=` follows
--   not_piece        == `!` is a negation
--   operator_piece   == the sign of a connective, between blanks, is this connective
--   ends_word text   == no byte of words stands at the front
--   word_piece       == a word that no byte of words follows is one
--   between_same     == a text of two with a sign between them, in front of another
use Rattle.std.proofs.Common.{◌≡◌, ℕ, suc, ◌+◌, Bool, true, false, not, ◌||◌, ◌==◌, List, [], ◌∷◌, ◌++◌, length, take_while, None, append_assoc, codes, refl, ◌∙◌, ap, arith}
use Rattle.std.specs.List.{list_all, list_any, prefix_len}
use Rattle.std.proofs.lemmas.Bool.{and_parts, or_parts, not-true, cond-true, cond-false}
use Rattle.std.proofs.lemmas.List.Folds.{length-prefix_len}
use Rattle.ml_text.specs.Bytes.{is_blank, is_word_byte}
use Rattle.ml_text.specs.Operators.{spelling_of}
use Rattle.ml_text.specs.Words.{is_word_from}
use Rattle.ml_text.specs.declared.token.Operator.{Operator}
use Rattle.ml_text.specs.declared.token.Operator.TheVariants as operator
use Rattle.ml_text.specs.declared.token.Token.TheVariants as token
use Rattle.ml_text.specs.declared.token.WordStart.{WordStart}
use Rattle.ml_text.specs.declared.token.WordStart.TheVariants.{AnyLetter, LowerCase}
use Rattle.ml_text.specs.Tokens.{begins_word, front_token, longest_sign, signs}
use Rattle.ml_text.proofs.ByteKinds.{begins_word-no_blank}
use Rattle.ml_text.proofs.Scan.{front_token-word, front_token-byte}
use Rattle.ml_text.proofs.Scans.{Spelt, Scans, blank, piece}

-- ---- bytes

abbrev pub lone : ℕ → Spelt
lone b = (token.Byte b, b ∷ [])

abbrev pub begins_sign : ℕ → Bool
begins_sign b = list_any (λ first. first == b) (codes "!~&/|\\-=<")

abbrev pub is_lone : WordStart → ℕ → Bool
is_lone w b = not (is_blank b || (begins_word w b || begins_sign b))

no_sign : (b : ℕ) (rest : List ℕ) → begins_sign b ≡ false → longest_sign signs (b ∷ rest) ≡ None
unfolding longest_sign signs
no_sign b rest none =
    let p1 = or_parts (33 == b) _ none in
    let p2 = or_parts (126 == b) _ p1.1 in
    let p3 = or_parts (38 == b) _ p2.1 in
    let p4 = or_parts (47 == b) _ p3.1 in
    let p5 = or_parts (124 == b) _ p4.1 in
    let p6 = or_parts (92 == b) _ p5.1 in
    let p7 = or_parts (45 == b) _ p6.1 in
    let p8 = or_parts (61 == b) _ p7.1 in
    let p9 = or_parts (60 == b) _ p8.1 in
    simp (p1.0, p2.0, p3.0, p4.0, p5.0, p6.0, p7.0, p8.0, p9.0)

pub lone_piece : (w : WordStart) (b : ℕ) (rest : List ℕ) (ss : List Spelt)
    → is_lone w b ≡ true
    → Scans w rest ss
    → Scans w (b ∷ rest) (lone b ∷ ss)
lone_piece w b rest ss is r =
    let none = or_parts (is_blank b) (begins_word w b || begins_sign b) (not-true _ is) in
    let other = or_parts (begins_word w b) (begins_sign b) none.1 in
    piece (token.Byte b) b [] none.0 (front_token-byte w b rest other.0 (no_sign b rest other.1)) r

less_alone : (c : ℕ) (rest : List ℕ) → (45 == c) ≡ false → (61 == c) ≡ false → longest_sign signs (60 ∷ c ∷ rest) ≡ None
unfolding longest_sign signs
less_alone c rest no_dash no_equals = simp (no_dash, no_equals)

pub less_piece : (w : WordStart) (c : ℕ) (rest : List ℕ) (ss : List Spelt)
    → (45 == c) ≡ false
    → (61 == c) ≡ false
    → Scans w (c ∷ rest) ss
    → Scans w (60 ∷ c ∷ rest) (lone 60 ∷ ss)
less_piece AnyLetter c rest ss no_dash no_equals r =
    piece (token.Byte 60) 60 [] refl (front_token-byte AnyLetter 60 (c ∷ rest) refl (less_alone c rest no_dash no_equals)) r
less_piece LowerCase c rest ss no_dash no_equals r =
    piece (token.Byte 60) 60 [] refl (front_token-byte LowerCase 60 (c ∷ rest) refl (less_alone c rest no_dash no_equals)) r

-- ---- signs

pub not_piece : (w : WordStart) (rest : List ℕ) (ss : List Spelt)
    → Scans w rest ss
    → Scans w (33 ∷ rest) ((token.Not, codes "!") ∷ ss)
unfolding front_token longest_sign signs
not_piece AnyLetter rest ss r = piece token.Not 33 [] refl refl r
not_piece LowerCase rest ss r = piece token.Not 33 [] refl refl r

pub and_piece : (w : WordStart) (rest : List ℕ) (ss : List Spelt)
    → Scans w rest ss
    → Scans w (codes " & " ++ rest) ((token.Operator operator.And, codes "&") ∷ ss)
unfolding front_token longest_sign signs
and_piece AnyLetter rest ss r = blank 32 refl (piece (token.Operator operator.And) 38 [] refl refl (blank 32 refl r))
and_piece LowerCase rest ss r = blank 32 refl (piece (token.Operator operator.And) 38 [] refl refl (blank 32 refl r))

or_piece : (w : WordStart) (rest : List ℕ) (ss : List Spelt)
    → Scans w rest ss
    → Scans w (codes " | " ++ rest) ((token.Operator operator.Or, codes "|") ∷ ss)
unfolding front_token longest_sign signs
or_piece AnyLetter rest ss r = blank 32 refl (piece (token.Operator operator.Or) 124 [] refl refl (blank 32 refl r))
or_piece LowerCase rest ss r = blank 32 refl (piece (token.Operator operator.Or) 124 [] refl refl (blank 32 refl r))

implies_piece : (w : WordStart) (rest : List ℕ) (ss : List Spelt)
    → Scans w rest ss
    → Scans w (codes " -> " ++ rest) ((token.Operator operator.Implies, codes "->") ∷ ss)
unfolding front_token longest_sign signs
implies_piece AnyLetter rest ss r =
    blank 32 refl (piece (token.Operator operator.Implies) 45 (codes ">") refl refl (blank 32 refl r))
implies_piece LowerCase rest ss r =
    blank 32 refl (piece (token.Operator operator.Implies) 45 (codes ">") refl refl (blank 32 refl r))

iff_piece : (w : WordStart) (rest : List ℕ) (ss : List Spelt)
    → Scans w rest ss
    → Scans w (codes " <-> " ++ rest) ((token.Operator operator.Iff, codes "<->") ∷ ss)
unfolding front_token longest_sign signs
iff_piece AnyLetter rest ss r =
    blank 32 refl (piece (token.Operator operator.Iff) 60 (codes "->") refl refl (blank 32 refl r))
iff_piece LowerCase rest ss r =
    blank 32 refl (piece (token.Operator operator.Iff) 60 (codes "->") refl refl (blank 32 refl r))

pub operator_piece : (w : WordStart) (o : Operator) (rest : List ℕ) (ss : List Spelt)
    → Scans w rest ss
    → Scans w (codes " " ++ (spelling_of o ++ (codes " " ++ rest))) ((token.Operator o, spelling_of o) ∷ ss)
operator_piece w operator.And = and_piece w
operator_piece w operator.Or = or_piece w
operator_piece w operator.Implies = implies_piece w
operator_piece w operator.Iff = iff_piece w

-- ---- words

abbrev pub ends_word : List ℕ → Bool
ends_word [] = true
ends_word (c ∷ rest) = not (is_word_byte c)

word_size : (bs rest : List ℕ)
    → list_all is_word_byte bs ≡ true
    → ends_word rest ≡ true
    → prefix_len is_word_byte (bs ++ rest) ≡ length bs
word_size [] [] all stops = refl
word_size [] (c ∷ rest) all stops =
    cond-false (is_word_byte c) (1 + prefix_len is_word_byte rest) 0 (not-true (is_word_byte c) stops)
word_size (b ∷ bs) rest all stops =
    let parts = and_parts (is_word_byte b) (list_all is_word_byte bs) all in
    let later = word_size bs rest parts.1 stops in
    let here = cond-true (is_word_byte b) (1 + prefix_len is_word_byte (bs ++ rest)) 0 parts.0 in
    omega (arith, here, later)

pub word_piece : (w : WordStart) (word rest : List ℕ) (ss : List Spelt)
    → is_word_from (begins_word w) word ≡ true
    → ends_word rest ≡ true
    → Scans w rest ss
    → Scans w (word ++ rest) ((token.Word, word) ∷ ss)
word_piece w [] rest ss word stops r = absurd (cc)
word_piece w (b ∷ bs) rest ss word stops r =
    let parts = and_parts (begins_word w b) (list_all is_word_byte bs) word in
    let size = length-prefix_len is_word_byte (bs ++ rest) ∙ word_size bs rest parts.1 stops in
    let one_more : 1 + length (take_while is_word_byte (bs ++ rest)) ≡ suc (length bs) = omega (arith, size) in
    let front = front_token-word w b (bs ++ rest) parts.0 ∙ ap (λ n. (token.Word, n)) one_more in
    piece token.Word b bs (begins_word-no_blank w b parts.0) front r

-- ---- connectives

pub between_same : (left sign right rest : List ℕ)
    → (codes "(" ++ left ++ codes " " ++ sign ++ codes " " ++ right ++ codes ")") ++ rest
    ≡ 40 ∷ (left ++ (codes " " ++ (sign ++ (codes " " ++ (right ++ (41 ∷ rest))))))
between_same left sign right rest = simp append_assoc
