-- Families by their words, and for which numbers they are made.
--
--   family_named w   == the family that the word w names, if it names one
--   greatest f       == the greatest number of its range
--   is_in_range f n  == n is a number of its range, which begins at 1
use Rattle.std.specs.Prelude.{ℕ, ◌&&◌, Bool, Option, Some, None, if◌then◌else◌, nat_le}
use Rattle.std.specs.Str.{bytes_eq}
use Rattle.ml_lines.specs.Lines.{Word}
use Rattle.ml_gen.specs.declared.family.Family.{Family}
use Rattle.ml_gen.specs.declared.family.Family.TheVariants.{And, Or, Step, Fair, Loop}
use Rattle.ml_gen.specs.Families.{family_word}

abbrev pub family_named : Word → Option Family
family_named word =
    if bytes_eq word (family_word And) then Some And
    else (if bytes_eq word (family_word Or) then Some Or
    else (if bytes_eq word (family_word Step) then Some Step
    else (if bytes_eq word (family_word Fair) then Some Fair
    else (if bytes_eq word (family_word Loop) then Some Loop else None))))

abbrev pub greatest : Family → ℕ
greatest And = 500
greatest Or = 16
greatest Step = 400
greatest Fair = 3
greatest Loop = 400

abbrev pub is_in_range : Family → ℕ → Bool
is_in_range family n = nat_le 1 n && nat_le n (greatest family)
