-- How the kinds of bytes lie to each other: what begins a word is a letter, letters stand in words, and no blank does.
use Rattle.std.proofs.Common.{◌≡◌, ℕ, Bool, true, false, ◌||◌, ◌==◌, nat_le, sym, refl, ap, ◌∙◌, ⊎_elim, arith, eqb-true, leb-true}
use Rattle.std.proofs.lemmas.Bool.{cases_Bool, and_left, and_parts, lt-leb, or_cases, or_left, false≢true}
use Rattle.ml_text.specs.Bytes.{is_blank, is_letter, is_lower, is_upper, is_digit, is_word_byte}
use Rattle.ml_text.specs.Tokens.{begins_word}
use Rattle.ml_text.specs.declared.token.WordStart.{WordStart}
use Rattle.ml_text.specs.declared.token.WordStart.TheVariants.{AnyLetter, LowerCase}

pub begins_word-letter : (w : WordStart) (b : ℕ) → begins_word w b ≡ true → is_letter b ≡ true
begins_word-letter AnyLetter b begins = begins
begins_word-letter LowerCase b begins = or_left (is_lower b) (is_upper b) begins

-- a byte of words is none of the four blanks
pub word_byte-no_blank : (b : ℕ) → is_word_byte b ≡ true → is_blank b ≡ false
word_byte-no_blank b word =
    let at : (c : ℕ) → is_word_byte c ≡ false → b == c ≡ true → is_blank b ≡ false =
    λ c other is. absurd (false≢true (sym other ∙ sym (ap is_word_byte (eqb-true b c is)) ∙ word)) in
    ⊎_elim
    (λ (blank : is_blank b ≡ true).
    ⊎_elim
    (λ h. ⊎_elim (λ h'. ⊎_elim (λ h''. at 32 refl h'') (λ h''. at 9 refl h'') (or_cases _ _ h')) (λ h'. at 13 refl h')
    (or_cases _ _ h))
    (λ h. at 10 refl h)
    (or_cases _ _ blank))
    (λ (other : is_blank b ≡ false). other)
    (cases_Bool (is_blank b))

pub letter-word_byte : (b : ℕ) → is_letter b ≡ true → is_word_byte b ≡ true
letter-word_byte b letter = or_left (is_letter b || is_digit b) (b == 95) (or_left (is_letter b) (is_digit b) letter)

pub begins_word-no_blank : (w : WordStart) (b : ℕ) → begins_word w b ≡ true → is_blank b ≡ false
begins_word-no_blank w b begins = word_byte-no_blank b (letter-word_byte b (begins_word-letter w b begins))

-- bytes of which one alone passes a test are different
pub differs_by : (p : ℕ → Bool) (b c : ℕ) → p b ≡ false → p c ≡ true → (b == c) ≡ false
differs_by p b c fails passes =
    ⊎_elim
    (λ (same : (b == c) ≡ true). absurd (false≢true (sym fails ∙ ap p (eqb-true b c same) ∙ passes)))
    (λ (other : (b == c) ≡ false). other)
    (cases_Bool (b == c))

-- a letter is of one case
pub upper-no_lower : (b : ℕ) → is_upper b ≡ true → is_lower b ≡ false
upper-no_lower b upper =
    let below = leb-true b 90 (and_parts (nat_le 65 b) (nat_le b 90) upper).1 in
    and_left (nat_le 97 b) (nat_le b 122) (lt-leb 97 b (omega (arith, below)))

pub other-upper : (b : ℕ) → is_letter b ≡ true → is_lower b ≡ false → is_upper b ≡ true
other-upper b letter other =
    ⊎_elim
    (λ (lower : is_lower b ≡ true). absurd (false≢true (sym other ∙ lower)))
    (λ (upper : is_upper b ≡ true). upper)
    (or_cases (is_lower b) (is_upper b) letter)
