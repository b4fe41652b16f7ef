-- Texts that stand in one line, put together.
--
--   both_in_line  == of two parts that do
--   three_in_line, five_in_line, seven_in_line == of more of them
--   unless_blank  == a text that is left out or does
--   between_in_line == two texts in parentheses, with a sign between them
use Rattle.std.proofs.Common.{Bool, true, false, List, [], ◌++◌, ℕ, codes, cond, refl}
use Rattle.ml_lists.proofs.Absent.{none_both}
use Rattle.ml_lines.specs.Reading.{is_line_end}
use Rattle.ml_lines.proofs.LineFronts.{IsInLine}

pub both_in_line : (xs ys : List ℕ) → IsInLine xs → IsInLine ys → IsInLine (xs ++ ys)
both_in_line = none_both is_line_end

pub unless_blank : (b : Bool) (text : List ℕ) → IsInLine text → IsInLine (cond b [] text)
unless_blank true text is = refl
unless_blank false text is = is

pub three_in_line : (a b c : List ℕ) → IsInLine a → IsInLine b → IsInLine c → IsInLine (a ++ b ++ c)
three_in_line a b c ia ib ic = both_in_line (a ++ b) c (both_in_line a b ia ib) ic

pub five_in_line : (a b c d e : List ℕ) → IsInLine a → IsInLine b → IsInLine c → IsInLine d → IsInLine e
    → IsInLine (a ++ b ++ c ++ d ++ e)
five_in_line a b c d e ia ib ic id ie =
    three_in_line (a ++ b ++ c) d e (three_in_line a b c ia ib ic) id ie

pub seven_in_line : (a b c d e f g : List ℕ)
    → IsInLine a
    → IsInLine b
    → IsInLine c
    → IsInLine d
    → IsInLine e
    → IsInLine f
    → IsInLine g
    → IsInLine (a ++ b ++ c ++ d ++ e ++ f ++ g)
seven_in_line a b c d e f g ia ib ic id ie in_f ig =
    three_in_line (a ++ b ++ c ++ d ++ e) f g (five_in_line a b c d e ia ib ic id ie) in_f ig

-- `(left sign right)`, with blanks around the sign
pub between_in_line : (left sign right : List ℕ)
    → IsInLine left
    → IsInLine sign
    → IsInLine right
    → IsInLine (codes "(" ++ left ++ codes " " ++ sign ++ codes " " ++ right ++ codes ")")
between_in_line left sign right l s r =
    seven_in_line (codes "(") left (codes " ") sign (codes " ") right (codes ")") refl l refl s refl r refl
