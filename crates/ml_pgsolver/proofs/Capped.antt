-- The number that digits are, computed up to a cap.
--
--   digit_more       == a digit at the front of what is left of a text
--   digits_step      == a digit more is one that is left
--   capped_is        == the cap, or the number where it is less
--   fitting-capped   == what is above the cap may not stand in a text
--   numeral_same     == so a number is read as it should be
use Rattle.std.proofs.Common.{◌≡◌, ℕ, suc, ◌+◌, ◌-◌, ◌*◌, ◌<◌, true, List, [], ◌∷◌, length, get_or, drop, min, Option, refl, sym, ◌∙◌, ap, arith, take}
use Rattle.std.specs.List.{take_while, prefix_len}
use Rattle.std.proofs.lemmas.Bool.{cond-true}
use Rattle.std.proofs.lemmas.List.{drop_more}
use Rattle.ml_text.specs.Bytes.{is_digit}
use Rattle.std.proofs.lemmas.Bool.Decides.{nat_tests}
use Rattle.ml_lines.specs.Reading.{value, value_on}
use Rattle.ml_pgsolver.specs.declared.scan.TheConstants.{CAP}
use Rattle.ml_parity.specs.declared.players.Player.{Player}
use Rattle.ml_pgsolver.specs.private.Signs.{capped_on, capped_value, fitting, numeral_of, owner_named}

-- ---- the digits at the front of what is left of a text

pub digit_more : (text : List ℕ) (i : ℕ) → i < length text → is_digit (get_or text i 0) ≡ true
    → take_while is_digit (drop i text) ≡ get_or text i 0 ∷ take_while is_digit (drop (i + 1) text)
digit_more text i within digit =
    let b = get_or text i 0 in
    let rest = drop (i + 1) text in
    let n = prefix_len is_digit rest in
    let one : 1 + n ≡ suc n = omega arith in
    let long : prefix_len is_digit (b ∷ rest) ≡ suc n = cond-true _ _ _ digit ∙ one in
    ap (take_while is_digit) (drop_more text i 0 within) ∙ ap (λ k. take k (b ∷ rest)) long

pub digits_step : (text : List ℕ) (i v next : ℕ) → i < length text → is_digit (get_or text i 0) ≡ true
    → next ≡ min (10 * v + (get_or text i 0 - 48)) CAP
    → capped_on v (take_while is_digit (drop i text)) ≡ capped_on next (take_while is_digit (drop (i + 1) text))
digits_step text i v next within digit is =
    ap (capped_on v) (digit_more text i within digit)
    ∙ ap (λ n. capped_on n (take_while is_digit (drop (i + 1) text))) (sym is)

-- ---- the number

capped_step : (n m d : ℕ) → n ≡ min m CAP → min (10 * n + d) CAP ≡ min (10 * m + d) CAP
capped_step n m d is = grind (arith, nat_tests)

capped_along : (xs : List ℕ) (n m : ℕ) → n ≡ min m CAP → capped_on n xs ≡ min (value_on m xs) CAP
capped_along [] n m is = is
capped_along (c ∷ cs) n m is =
    capped_along cs (min (10 * n + (c - 48)) CAP) (10 * m + (c - 48)) (capped_step n m (c - 48) is)

pub capped_is : (digits : List ℕ) → capped_value digits ≡ min (value digits) CAP
capped_is digits = capped_along digits 0 0 refl

fitting_min : (n : ℕ) → fitting (min n CAP) ≡ fitting n
fitting_min n = grind (arith, nat_tests)

pub fitting-capped : (digits : List ℕ) → fitting (capped_value digits) ≡ fitting (value digits)
fitting-capped digits = ap fitting (capped_is digits) ∙ fitting_min (value digits)

pub numeral_same : (digits : List ℕ) (v : Option ℕ) (o : Option Player)
    → v ≡ fitting (capped_value digits)
    → o ≡ owner_named digits
    → record { value = v; owner = o } ≡ numeral_of digits
numeral_same digits v o is_value is_owner =
    let same : v ≡ fitting (value digits) = is_value ∙ fitting-capped digits in cc
