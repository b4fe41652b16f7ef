-- Names that are a letter with a number behind it.
--
--   name_bytes   == the bytes of a number may stand in words
--   number_short == a number of at most 500 has at most 52 bytes
--   in_range     == what is so of numbers of at most 500 is so of all in a range of such numbers
use Rattle.std.proofs.Common.{◌≡◌, ℕ, zero, suc, ◌+◌, ◌/◌, ◌%◌, ◌<◌, ◌≤◌, ◌^◌, true, [], ◌∷◌, length, map, refl, ◌∙◌, ap, ⊎_elim, arith, length-append}
use Rattle.std.specs.List.{AllByRecursion, list_all, range_with_len}
use Rattle.std.proofs.lemmas.Bool.{and_from, cases_lt}
use Rattle.std.proofs.lemmas.Bool.Decides.{nat_tests}
use Rattle.std.proofs.lemmas.Fmt.{decimal_by_steps, decimal_digit, decimal_step, length-decimal-le_succ}
use Rattle.std.proofs.lemmas.List.Folds.{list_all-append}
use Rattle.ml_lines.specs.Lines.{number}
use Rattle.ml_text.specs.Bytes.{is_word_byte}

digit_byte : (n : ℕ) → n < 10 → is_word_byte (48 + n) ≡ true
digit_byte n low = grind (arith, nat_tests)

pub name_bytes : (n : ℕ) → n < 2 ^ 64 → list_all is_word_byte (number n) ≡ true
name_bytes =
    decimal_by_steps (λ n ds. list_all is_word_byte ds ≡ true)
    (λ n low. and_from (is_word_byte (48 + n)) true (digit_byte n low) refl)
    (λ n ds above front.
    list_all-append is_word_byte ds ((48 + n % 10) ∷ [])
    ∙ and_from (list_all is_word_byte ds) (list_all is_word_byte ((48 + n % 10) ∷ [])) front
    (and_from (is_word_byte (48 + n % 10)) true (digit_byte (n % 10) (omega arith)) refl))

pub number_short : (n : ℕ) → n ≤ 500 → length (number n) ≤ 52
number_short n few =
    ⊎_elim
    (λ (small : n < 10). omega (arith, ap length (decimal_digit n small)))
    (λ (large : 10 ≤ n).
    let front = length-decimal-le_succ (n / 10) (omega arith) in
    let all = ap length (decimal_step n large (omega arith)) in
    omega (arith, front, all, length-append (number (n / 10)) ((48 + n % 10) ∷ [])))
    (cases_lt n 10)

pub in_range : {X : Type 0} (P : X → Type 0) (f : ℕ → X) → ((i : ℕ) → i ≤ 500 → P (f i)) → (k a : ℕ) → a + k ≤ 501
    → AllByRecursion P (map f (range_with_len a k))
in_range P f all zero a low = tt
in_range P f all (suc k) a low = (all a (omega arith), in_range P f all k (a + 1) (omega arith))
