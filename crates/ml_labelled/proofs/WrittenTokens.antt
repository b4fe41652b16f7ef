-- The tokens of what is written: of numbers, of quoted names, and of the marks between them. Behind each the text goes on, and
-- so do its tokens, from some place on.
--
--   signs_at i text  == the tokens of a text whose first byte stands at the place i, without their places
--   onward k i       == the place k bytes behind the place i
--   number_read      == a number, behind which no digit stands
--   quoted_read      == a name between quotes
use Rattle.std.proofs.Common.{ℕ, zero, suc, ◌≡◌, ◌+◌, ◌-◌, ◌<◌, ◌^◌, ◌==◌, ◌&&◌, Bool, true, false, not, nat_le, List, [], ◌∷◌, ◌++◌, length, take, Some, length-append, refl, sym, ap, ◌∙◌, arith, append_assoc}
use Rattle.std.specs.Char.{is_ascii_alphabetic, is_ascii_digit}
use Rattle.std.specs.List.{list_all, prefix_len, take_while}
use Rattle.std.specs.Str.{all_ascii_digits}
use Rattle.std.proofs.Math.Seq.{take-append_seam}
use Rattle.std.proofs.lemmas.Bool.{and_parts, cond-true, cond-false}
use Rattle.std.proofs.lemmas.Bool.Decides.{nat_tests}
use Rattle.std.proofs.lemmas.Fmt.{decimal_nonempty}
use Rattle.ml_base.specs.Name.{IsName, is_name_byte, longest_name}
use Rattle.ml_lines.specs.Lines.{number}
use Rattle.ml_lines.proofs.Numbers.{digits-number}
use Rattle.ml_text.specs.Bytes.{is_blank, is_digit}
use Rattle.ml_hoa.specs.Tokens.{Token, Number, Text, Piece, closing_quote, front_piece, number_piece, piece, placed, quoted, signs_of, tokens_at}

abbrev pub signs_at : ℕ → List ℕ → List Token
signs_at i text = signs_of (tokens_at 0 i text)

abbrev pub onward : ℕ → ℕ → ℕ
onward zero i = i
onward (suc k) i = onward k (i + 1)

-- the bytes of a piece are passed over
passed_over : (ds rest : List ℕ) (i : ℕ) → (j : ℕ) × (tokens_at (length ds) i (ds ++ rest) ≡ tokens_at 0 j rest)
unfolding tokens_at
passed_over [] rest i = (i, refl)
passed_over (d ∷ ds) rest i = passed_over ds rest (i + 1)

-- ---- numbers

all_pass : (p : ℕ → Bool) (ds : List ℕ) (b : ℕ) (r : List ℕ)
    → list_all p ds ≡ true
    → p b ≡ false
    → prefix_len p (ds ++ b ∷ r) ≡ length ds
all_pass p [] b r all other = cond-false (p b) (1 + prefix_len p r) 0 other
all_pass p (d ∷ ds) b r all other =
    let parts = and_parts (p d) (list_all p ds) all in
    let rest = all_pass p ds b r parts.1 other in
    let here = cond-true (p d) (1 + prefix_len p (ds ++ b ∷ r)) 0 parts.0 in
    omega (arith, here, rest)

taken : (p : ℕ → Bool) (ds : List ℕ) (b : ℕ) (r : List ℕ)
    → list_all p ds ≡ true
    → p b ≡ false
    → take_while p (ds ++ b ∷ r) ≡ ds
taken p ds b r all other =
    ap (λ n. take n (ds ++ b ∷ r)) (all_pass p ds b r all other) ∙ take-append_seam ds (b ∷ r)

are_digits : (ds : List ℕ) → all_ascii_digits ds ≡ true → list_all is_digit ds ≡ true
are_digits [] all = refl
are_digits (d ∷ ds) all =
    let parts = and_parts (is_ascii_digit d) (all_ascii_digits ds) all in
    let here : is_digit d ≡ true = grind (arith, nat_tests) in
    ap (λ b. b && list_all is_digit ds) here ∙ are_digits ds parts.1

no_blank : (d : ℕ) → is_digit d ≡ true → is_blank d ≡ false
no_blank d is = grind (arith, nat_tests)

front_of_digits : (i d b : ℕ) (ds r : List ℕ)
    → list_all is_digit (d ∷ ds) ≡ true
    → is_digit b ≡ false
    → front_piece i d (d ∷ (ds ++ b ∷ r)) ≡ number_piece i (d ∷ ds)
front_of_digits i d b ds r all other =
    let here = (and_parts (is_digit d) (list_all is_digit ds) all).0 in
    cond-false (is_blank d) _ _ (no_blank d here)
    ∙ cond-true (is_digit d) _ _ here
    ∙ ap (number_piece i) (taken is_digit (d ∷ ds) b r all other)

step_from : (i d : ℕ) (rest : List ℕ) (p : Piece)
    → front_piece i d (d ∷ rest) ≡ p
    → tokens_at 0 i (d ∷ rest) ≡ placed p.token i ++ tokens_at (p.size - 1) (i + 1) rest
unfolding tokens_at
step_from i d rest p is = ap (λ (q : Piece). placed q.token i ++ tokens_at (q.size - 1) (i + 1) rest) is

digits_read : (i b : ℕ) (ds r : List ℕ)
    → list_all is_digit ds ≡ true
    → 0 < length ds
    → is_digit b ≡ false
    → (j : ℕ) × (signs_at i (ds ++ b ∷ r) ≡ Number ds i ∷ signs_at j (b ∷ r))
digits_read i b [] r all some other = absurd (omega arith)
digits_read i b (d ∷ ds) r all some other =
    let p = number_piece i (d ∷ ds) in
    let less : suc (length ds) - 1 ≡ length ds = omega arith in
    let behind = passed_over ds (b ∷ r) (i + 1) in (
      behind.0,
      ap signs_of
          (step_from i d (ds ++ b ∷ r) p (front_of_digits i d b ds r all other)
          ∙ ap (λ k. record { token = Number (d ∷ ds) i; at = i } ∷ tokens_at k (i + 1) (ds ++ b ∷ r)) less
          ∙ ap (λ ts. record { token = Number (d ∷ ds) i; at = i } ∷ ts) behind.1),
    )

pub number_read : (n i b : ℕ) (r : List ℕ)
    → n < 2 ^ 64
    → is_digit b ≡ false
    → (j : ℕ) × (signs_at i (number n ++ b ∷ r) ≡ Number (number n) i ∷ signs_at j (b ∷ r))
number_read n i b r fits other =
    digits_read i b (number n) r (are_digits (number n) (digits-number n fits)) (decimal_nonempty n fits) other

-- ---- names

no_quote : (b : ℕ) → is_name_byte b ≡ true → ((not false && (b == 34)) ≡ false) × ((not false && (b == 92)) ≡ false)
no_quote b is = (grind (arith, nat_tests), grind (arith, nat_tests))

closed : (k : ℕ) (name r : List ℕ)
    → list_all is_name_byte name ≡ true
    → closing_quote false k (name ++ 34 ∷ r) ≡ Some (k + length name)
closed k [] r all = let e : k ≡ k + 0 = omega arith in ap Some e
closed k (b ∷ bs) r all =
    let parts = and_parts (is_name_byte b) (list_all is_name_byte bs) all in
    let others = no_quote b parts.0 in
    let e : k + 1 + length bs ≡ k + suc (length bs) = omega arith in
    cond-false (not false && (b == 34)) _ _ others.0
    ∙ ap (λ t. closing_quote t (k + 1) (bs ++ 34 ∷ r)) others.1
    ∙ closed (k + 1) bs r parts.1
    ∙ ap Some e

letter_in_name : (b : ℕ) → is_ascii_alphabetic b ≡ true → is_name_byte b ≡ true
letter_in_name b is = grind (arith, nat_tests)

name_bytes : (name : List ℕ) → IsName name → list_all is_name_byte name ≡ true
name_bytes [] is = refl
name_bytes (b ∷ bs) is =
    let front = is_ascii_alphabetic b && list_all is_name_byte bs in
    let parts = and_parts front (nat_le (length (b ∷ bs)) longest_name) is in
    let letters = and_parts (is_ascii_alphabetic b) (list_all is_name_byte bs) parts.0 in
    ap (λ t. t && list_all is_name_byte bs) (letter_in_name b letters.0) ∙ letters.1

quoted_at : (i : ℕ) (name r : List ℕ)
    → IsName name
    → front_piece i 34 (34 ∷ (name ++ 34 ∷ r)) ≡ piece (Text name) (length name + 2)
quoted_at i name r is =
    ap (quoted (name ++ 34 ∷ r)) (closed 0 name r (name_bytes name is))
    ∙ ap (λ n. quoted (name ++ 34 ∷ r) (Some n)) (omega arith)
    ∙ ap (λ t. piece (Text t) (length name + 2)) (take-append_seam name (34 ∷ r))

pub quoted_read : (i : ℕ) (name r : List ℕ)
    → IsName name
    → (j : ℕ) × (signs_at i (34 ∷ (name ++ 34 ∷ r)) ≡ Text name ∷ signs_at j r)
quoted_read i name r is =
    let p = piece (Text name) (length name + 2) in
    let behind = passed_over (name ++ 34 ∷ []) r (i + 1) in
    let less : length name + 2 - 1 ≡ length (name ++ 34 ∷ []) = omega (arith, length-append name (34 ∷ [])) in (
      behind.0,
      ap signs_of
          (step_from i 34 (name ++ 34 ∷ r) p (quoted_at i name r is)
          ∙ ap (λ k. record { token = Text name; at = i } ∷ tokens_at k (i + 1) (name ++ 34 ∷ r)) less
          ∙ ap (λ text. record { token = Text name; at = i } ∷ tokens_at (length (name ++ 34 ∷ [])) (i + 1) text)
          (sym (append_assoc name (34 ∷ []) r))
          ∙ ap (λ ts. record { token = Text name; at = i } ∷ ts) behind.1),
    )
