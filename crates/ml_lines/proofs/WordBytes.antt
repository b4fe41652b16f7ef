-- Numbers are words: they have a byte, and no blank.
--
--   number-is_word  == a number's word has a byte
--   number-words    == the words of its bytes are it alone
--   one_number_is   == bytes are a number exactly where their words are one number alone
use Rattle.std.proofs.Common.{◌≡◌, ◌≢◌, ℕ, ◌^◌, ◌<◌, true, false, Option, None, Some, MatchOption, List, [], ◌∷◌, length, All, refl, sym, ap, ◌∙◌, arith}
use Rattle.std.specs.Char.{is_ascii_digit}
use Rattle.std.specs.List.{join_with_byte}
use Rattle.std.specs.Str.{all_ascii_digits}
use Rattle.std.proofs.lemmas.Bool.Decides.{nat_tests}
use Rattle.std.proofs.lemmas.Fmt.{decimal_nonempty}
use Rattle.std.proofs.lemmas.List.Elements.{All-nil, All-cons}
use Rattle.std.proofs.lemmas.List.Splits.{slice_split_none, join_with_byte-slice_split}
use Rattle.std.proofs.lemmas.Bool.{and_parts}
use Rattle.ml_lines.specs.Lines.{Word, number}
use Rattle.ml_lines.specs.Reading.{IsNumber, is_blank, is_word, words_of}
use Rattle.ml_lines.proofs.Numbers.{digits-number}

some_byte : (w : Word) → 0 < length w → is_word w ≡ true
some_byte [] some = absurd (omega arith)
some_byte (b ∷ bs) some = refl

pub number-is_word : (n : ℕ) → n < 2 ^ 64 → is_word (number n) ≡ true
number-is_word n fits = some_byte (number n) (decimal_nonempty n fits)

no_blanks : (digits : Word) → all_ascii_digits digits ≡ true → All (λ b. is_blank b ≡ false) digits
no_blanks [] all = All-nil (λ (b : ℕ). is_blank b ≡ false)
no_blanks (d ∷ ds) all =
    let parts = and_parts (is_ascii_digit d) (all_ascii_digits ds) all in
    let other : is_blank d ≡ false = grind (arith, nat_tests) in
    All-cons (λ (b : ℕ). is_blank b ≡ false) d ds other (no_blanks ds parts.1)

pub number-words : (n : ℕ) → n < 2 ^ 64 → words_of (number n) ≡ number n ∷ []
number-words n fits = slice_split_none is_blank (number n) (no_blanks (number n) (digits-number n fits))

one_word_is : (bytes : List ℕ) (w : Word) → words_of bytes ≡ w ∷ [] → bytes ≡ w
one_word_is bytes w is = sym (join_with_byte-slice_split 32 bytes) ∙ ap (join_with_byte 32) is

pub one_number_is : (bytes : List ℕ) (r : Option ℕ)
    → MatchOption r (¬ (IsNumber bytes)) (λ n. (bytes ≡ number n) × (n < 2 ^ 32))
    → MatchOption r ((n : ℕ) → n < 2 ^ 32 → words_of bytes ≢ number n ∷ [])
    (λ n. (words_of bytes ≡ number n ∷ []) × (n < 2 ^ 32))
one_number_is bytes None none = λ n fits is. none (n, fits, one_word_is bytes (number n) is)
one_number_is bytes (Some n) (is, fits) = (ap words_of is ∙ number-words n (omega arith), fits)
