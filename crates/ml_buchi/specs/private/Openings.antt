-- The text of a parity condition, from its left to its right.
--
--   operator_of n   == what joins the set n to those behind it
--   opening top n   == what is written of the set n, up to what is written of the sets behind it, all below `top`
--   closings n      == so many closing parentheses
use Rattle.std.specs.Prelude.{ℕ, ◌+◌, nat_lt, List, [], ◌∷◌, ◌++◌, if◌then◌else◌, replicate}
use Rattle.ml_buchi.specs.WrittenText.{alone, is_even, operand_text}

-- 38 is `&`, 124 is `|`
abbrev pub operator_of : ℕ → ℕ
operator_of n = if is_even n then 38 else 124

abbrev pub opening : ℕ → ℕ → List ℕ
opening top n =
    operand_text (alone n) ++ (operator_of n ∷ [] ++ (if nat_lt (n + 2) top then 40 ∷ [] else []))

abbrev pub closings : ℕ → List ℕ
closings n = replicate n 41
