-- A number is spelt by one word.
--
--   same_digits  == as many digits, read on from two numbers to one value, are the same, and so are the numbers
--   greater      == more digits behind a number that isn't 0 have a greater value
--   one_spelling == two words that spell one number are the same
use Rattle.std.proofs.Common.{◌≡◌, ◌≢◌, ℕ, ◌+◌, ◌-◌, ◌*◌, ◌<◌, ◌≤◌, ◌⊎◌, true, nat_le, [], ◌∷◌, length, refl, sym, ◌∙◌, inl, inr, arith}
use Rattle.std.specs.Str.{all_ascii_digits}
use Rattle.std.specs.Char.{is_ascii_digit}
use Rattle.std.proofs.lemmas.Bool.{and_parts, cases_eq, cases_lt}
use Rattle.std.proofs.lemmas.Bool.Decides.{nat_tests}
use Rattle.ml_lines.specs.Lines.{Word}
use Rattle.ml_lines.specs.Reading.{value, value_on}
use Rattle.ml_refutation_text.specs.LineKinds.{Spells}

record IsDigit (b : ℕ) : Type 0 where
  pub low : 48 ≤ b
  pub high : b ≤ 57

digit : (b : ℕ) → is_ascii_digit b ≡ true → IsDigit b
digit b is =
    let parts = and_parts (nat_le 48 b) (nat_le b 57) is in
    let first : nat_le 48 b ≡ true = parts.0 in
    let second : nat_le b 57 ≡ true = parts.1 in
    let low : 48 ≤ b = grind (arith, nat_tests) in
    let high : b ≤ 57 = grind (arith, nat_tests) in record { low = low; high = high }

pub same_digits : (n m : ℕ) (w u : Word) → all_ascii_digits w ≡ true → all_ascii_digits u ≡ true
    → length w ≡ length u → value_on n w ≡ value_on m u → (n ≡ m) × (w ≡ u)
same_digits n m [] [] first second long is = (is, refl)
same_digits n m [] (c ∷ u) first second long is = absurd (omega (arith, long))
same_digits n m (b ∷ w) [] first second long is = absurd (omega (arith, long))
same_digits n m (b ∷ w) (c ∷ u) first second long is =
    let x = and_parts (is_ascii_digit b) (all_ascii_digits w) first in
    let y = and_parts (is_ascii_digit c) (all_ascii_digits u) second in
    let d = digit b x.0 in
    let e = digit c y.0 in
    let rest = same_digits (10 * n + (b - 48)) (10 * m + (c - 48)) w u x.1 y.1 (omega (arith, long)) is in
    let one : b ≡ c = omega (arith, rest.0, d.low, d.high, e.low, e.high) in
    (omega (arith, rest.0, d.low, d.high, e.low, e.high), (λ i. one i ∷ rest.1 i))

greater : (n : ℕ) (w u : Word) → 0 < n → all_ascii_digits w ≡ true → all_ascii_digits u ≡ true
    → length u ≤ length w → value_on n w ≡ value u → ⊥
greater n [] u some first second long is =
    absurd (omega (arith, some, (same_digits n 0 [] u first second (omega (arith, long)) is).0))
greater n (b ∷ w) u some first second long is =
    let x = and_parts (is_ascii_digit b) (all_ascii_digits w) first in
    go (cases_lt (length w) (length u)) (λ few. greater (10 * n + (b - 48)) w u (omega (arith, some)) x.1 second few is)
  where
    go : (length w < length u) ⊎ (length u ≤ length w) → (length u ≤ length w → ⊥) → ⊥
    go (inl more) later =
        absurd (omega (arith, some, (same_digits n 0 (b ∷ w) u first second (omega (arith, long, more)) is).0))
    go (inr few) later = later few

longer : (w u : Word) (n : ℕ) → Spells w n → Spells u n → length u < length w → ⊥
longer [] u n x y less = absurd (omega (arith, less))
longer (b ∷ w) u n x y less = go (cases_eq b 48)
  where
    go : (b ≡ 48) ⊎ (b ≢ 48) → ⊥
    go (inl zero_leads) = absurd (omega (arith, x.no_zero_leads zero_leads, y.some, less))
    go (inr other) =
        let parts = and_parts (is_ascii_digit b) (all_ascii_digits w) x.digits in
        let d = digit b parts.0 in
        greater (10 * 0 + (b - 48)) w u (omega (arith, d.low, other)) parts.1 y.digits (omega (arith, less))
        (x.is_value ∙ sym y.is_value)

pub one_spelling : (w u : Word) (n : ℕ) → Spells w n → Spells u n → w ≡ u
one_spelling w u n x y = first (cases_lt (length w) (length u))
  where
    second : length u ≤ length w → (length u < length w) ⊎ (length w ≤ length u) → w ≡ u
    second past (inl less) = absurd (longer w u n x y less)
    second past (inr few) =
        (same_digits 0 0 w u x.digits y.digits (omega (arith, past, few)) (x.is_value ∙ sym y.is_value)).1

    first : (length w < length u) ⊎ (length u ≤ length w) → w ≡ u
    first (inl less) = absurd (longer u w n y x less)
    first (inr past) = second past (cases_lt (length u) (length w))
