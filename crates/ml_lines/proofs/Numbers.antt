-- Which words spell numbers.
--
--   own              == the digits of a word, and their value, are those of std
--   value-number     == the value of a number's word is the number
--   own_value        == a word that is a number is that of its value
--   digits-number    == a number's word has digits alone
--   number-value     == digits without a leading zero are the word of their value
--   no_number_empty, no_number_zero, no_number_byte, no_number_large  == no number is spelt by the empty word, by a
--                       longer word with a leading zero, by a word with a byte that is no digit, by too great a value
--   no_number_long   == nor by a word of more than ten bytes
--   IsReadTo, has_room, digit_read, other_byte, all_read  == a word that is read digit by digit
--   spelt            == digits are the word of their value, where it fits
use Rattle.std.proofs.Common.{◌≡◌, ℕ, zero, suc, ◌+◌, ◌-◌, ◌*◌, ◌^◌, ◌<◌, ◌≤◌, true, false, ◌&&◌, length, get_or, drop, Option, None, Some, MatchOption, add-one, sym, ap, subst, ◌∙◌, arith, rules}
use Rattle.std.specs.Str.{all_ascii_digits}
use Rattle.std.specs.Char.{is_ascii_digit}
use Rattle.std.proofs.Math.Nat.{pow-le-pow_right, pow-succ'}
use Rattle.std.proofs.lemmas.Bool.{true≢false}
use Rattle.std.proofs.lemmas.Bool.Decides.{nat_tests}
use Rattle.std.proofs.lemmas.List.{drop_more, drop_all}
use Rattle.std.proofs.lemmas.Fmt.{decimal_digit, decimal_nonempty, first_decimal, length-decimal-le, digits_decimal, digits_value-decimal, decimal-digits_value}
use Rattle.std.proofs.lemmas.Str.Parse.{IsNumeralModel, numerals_by_fold}
use Rattle.ml_lines.specs.Lines.{Word, number}
use Rattle.ml_lines.specs.Reading.{IsNumber, value, value_on}

own : IsNumeralModel (λ ds. all_ascii_digits ds ≡ true) (value_on 0)
own = numerals_by_fold (λ ds. all_ascii_digits ds ≡ true) (search rules) value_on (search rules)

pub value-number : (n : ℕ) → n < 2 ^ 64 → value (number n) ≡ n
value-number n fits = digits_value-decimal own n fits

pub own_value : (w : Word) → IsNumber w → (value w < 2 ^ 32) × (w ≡ number (value w))
own_value w (n, fits, is) =
    let same : value w ≡ n = ap value is ∙ value-number n (omega arith) in
    (subst (λ k. k < 2 ^ 32) (sym same) fits, is ∙ ap number (sym same))

pub digits-number : (n : ℕ) → n < 2 ^ 64 → all_ascii_digits (number n) ≡ true
digits-number n fits = digits_decimal own n fits

pub number-value : (word : Word)
    → all_ascii_digits word ≡ true
    → 0 < length word
    → (get_or word 0 0 ≡ 48 → length word ≡ 1)
    → value word < 2 ^ 32 → word ≡ number (value word)
number-value word digits some no_zero small = sym (decimal-digits_value own word digits some no_zero (omega arith))

pub no_number_empty : (word : Word) → length word ≡ 0 → ¬ (IsNumber word)
no_number_empty word none (n, small, is) =
    absurd (omega (arith, decimal_nonempty n (omega arith), ap length is))

pub no_number_zero : (word : Word) → get_or word 0 0 ≡ 48 → 1 < length word → ¬ (IsNumber word)
no_number_zero word first long (zero, small, is) = absurd (omega (arith, ap length (is ∙ decimal_digit 0 (omega arith))))
no_number_zero word first long (suc n, small, is) =
    absurd (omega (arith, first_decimal (suc n) (omega arith) (omega arith), ap (λ w. get_or w 0 0) is))

pub no_number_byte : (word : Word) → all_ascii_digits word ≡ false → ¬ (IsNumber word)
no_number_byte word other (n, small, is) =
    true≢false (sym (digits-number n (omega arith)) ∙ ap all_ascii_digits (sym is) ∙ other)

pub no_number_large : (word : Word) → 2 ^ 32 ≤ value word → ¬ (IsNumber word)
no_number_large word large (n, small, is) = absurd (omega (arith, value-number n (omega arith), ap value is))

pub no_number_long : (word : Word) → 10 < length word → ¬ (IsNumber word)
no_number_long word long (n, small, is) =
    absurd (omega (arith, length-decimal-le 10 n (omega arith) (omega arith) (omega arith), ap length is))

-- what is known of a word when its first digits were read
pub record IsReadTo (word : Word) (i n : ℕ) : Type 0 where
  pub value_left : value word ≡ value_on n (drop i word)
  pub small : n < 10 ^ i
  pub digits_left : all_ascii_digits word ≡ all_ascii_digits (drop i word)

-- the number so far has room for one more digit
pub has_room : (word : Word) (i n : ℕ) → i < 10 → IsReadTo word i n → n < 10 ^ 9
has_room word i n short so_far = omega (arith, so_far.small, pow-le-pow_right {n = 10} (omega arith) {i = i} {j = 9} (omega arith))

pub digit_read : (word : Word) (i n : ℕ) → i < length word → is_ascii_digit (get_or word i 0) ≡ true
    → IsReadTo word i n → IsReadTo word (i + 1) (10 * n + (get_or word i 0 - 48))
digit_read word i n here digit so_far = record {
  small =
      let least : get_or word i 0 ≤ 57 = grind (arith, nat_tests) in
      let tenfold : 10 ^ (i + 1) ≡ 10 * 10 ^ i = rw add-one (pow-succ' 10 i) in
      omega (arith, so_far.small);
  value_left = so_far.value_left ∙ ap (value_on n) (drop_more word i 0 here);
  digits_left =
      so_far.digits_left ∙ ap all_ascii_digits (drop_more word i 0 here)
      ∙ ap (λ first. first && all_ascii_digits (drop (i + 1) word)) digit;
}

pub other_byte : (word : Word) (i n : ℕ) → i < length word → is_ascii_digit (get_or word i 0) ≡ false
    → IsReadTo word i n → all_ascii_digits word ≡ false
other_byte word i n here other so_far =
    so_far.digits_left ∙ ap all_ascii_digits (drop_more word i 0 here)
    ∙ ap (λ first. first && all_ascii_digits (drop (i + 1) word)) other

pub all_read : (word : Word) (i n : ℕ) → length word ≤ i → IsReadTo word i n → (all_ascii_digits word ≡ true) × (n ≡ value word)
all_read word i n past so_far =
    let none = drop_all i word past in
    (so_far.digits_left ∙ ap all_ascii_digits none, sym (so_far.value_left ∙ ap (value_on n) none))

-- digits are the word of their value, where it fits
pub spelt : (word : Word) (n : ℕ) (r : Option ℕ) → 0 < length word → (get_or word 0 0 ≡ 48 → length word ≡ 1)
    → (all_ascii_digits word ≡ true) × (n ≡ value word) → MatchOption r (2 ^ 32 ≤ n) (λ m. (m ≡ n) × (n < 2 ^ 32))
    → MatchOption r (¬ (IsNumber word)) (λ m. (word ≡ number m) × (m < 2 ^ 32))
spelt word n None some no_zero (digits, is) large = no_number_large word (omega (arith, is))
spelt word n (Some m) some no_zero (digits, is) (same, fits) =
    (number-value word digits some no_zero (omega (arith, is)) ∙ ap number (sym is ∙ sym same), omega (arith, same))
