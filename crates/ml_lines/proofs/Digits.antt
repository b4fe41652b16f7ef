-- Numbers, written digit by digit behind what stands there already.
--
--   only_digit  == below ten, the one digit is the number
--   last_digit  == from ten on, the number is that of its tenth, and its last digit behind it
use Rattle.std.proofs.Common.{◌≡◌, ℕ, ◌+◌, ◌/◌, ◌%◌, ◌^◌, ◌<◌, ◌≤◌, List, [], ◌∷◌, ◌++◌, sym, ap, ◌∙◌, append_assoc, arith}
use Rattle.std.proofs.lemmas.Fmt.{decimal_digit, decimal_step}
use Rattle.ml_lines.specs.Lines.{number}

pub only_digit : (before after : List ℕ) (n : ℕ) → n < 10 → after ≡ before ++ (48 + n % 10) ∷ [] → after ≡ before ++ number n
only_digit before after n small e =
    let same : n % 10 ≡ n = omega arith in
    e ∙ ap (λ digit. before ++ (48 + digit) ∷ []) same ∙ ap (λ digits. before ++ digits) (sym (decimal_digit n small))

pub last_digit : (before tenth after : List ℕ) (n : ℕ) → 10 ≤ n → n < 2 ^ 64 → tenth ≡ before ++ number (n / 10)
    → after ≡ tenth ++ (48 + n % 10) ∷ [] → after ≡ before ++ number n
last_digit before tenth after n large fits front e =
    e ∙ ap (λ digits. digits ++ (48 + n % 10) ∷ []) front ∙ append_assoc before (number (n / 10)) ((48 + n % 10) ∷ [])
    ∙ ap (λ digits. before ++ digits) (sym (decimal_step n large fits))
