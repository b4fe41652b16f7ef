-- Words that have neither a blank nor an LF, and the lines that they make.
--
--   Plain w          == the word w has neither a blank nor an LF
--   plain_line       == a line of such words is plain
--   number_without   == a byte before the digits stands in no number
--   number_plain     == so a number is plain
--   numbered_plain   == so is a line of a plain word and a number
--   plain_append     == plain lines, and further ones behind them
use Rattle.std.proofs.Common.{◌≡◌, ℕ, ◌^◌, ◌<◌, true, false, List, [], ◌∷◌, ◌++◌, arith}
use Rattle.std.specs.Char.{is_ascii_digit}
use Rattle.std.specs.List.{AllByRecursion}
use Rattle.std.specs.Str.{all_ascii_digits}
use Rattle.std.proofs.lemmas.Bool.Decides.{nat_tests}
use Rattle.ml_lists.proofs.Absent.{absent}
use Rattle.ml_lines.specs.Lines.{Word, Line, number}
use Rattle.ml_lines.proofs.Numbers.{digits-number}
use Rattle.ml_lines.proofs.Unique.{has, avoids, IsPlain, ArePlain}

abbrev pub Plain : Word → Type 0
Plain word = (has 32 word ≡ false) × (has 10 word ≡ false)

abbrev pub ArePlainWords : Line → Type 0
ArePlainWords words = AllByRecursion Plain words

avoid_blanks : (ws : Line) → ArePlainWords ws → avoids 32 ws
avoid_blanks [] all = tt
avoid_blanks (w ∷ ws) all = (all.0.0, avoid_blanks ws all.1)

avoid_ends : (ws : Line) → ArePlainWords ws → avoids 10 ws
avoid_ends [] all = tt
avoid_ends (w ∷ ws) all = (all.0.1, avoid_ends ws all.1)

pub plain_line : (w : Word) (ws : Line) → ArePlainWords (w ∷ ws) → IsPlain (w ∷ ws)
plain_line w ws all = (avoid_blanks (w ∷ ws) all, avoid_ends (w ∷ ws) all)

-- ---- numbers

pub digits_without : (c : ℕ) → c < 48 → (w : Word) → all_ascii_digits w ≡ true → has c w ≡ false
digits_without c small = absent is_ascii_digit c (grind (arith, nat_tests))

pub number_without : (c : ℕ) → c < 48 → (n : ℕ) → n < 2 ^ 64 → has c (number n) ≡ false
number_without c small n fits = digits_without c small (number n) (digits-number n fits)

pub number_plain : (n : ℕ) → n < 2 ^ 64 → Plain (number n)
number_plain n fits = (number_without 32 (omega arith) n fits, number_without 10 (omega arith) n fits)

pub numbered_plain : (word : Word) (n : ℕ) → Plain word → n < 2 ^ 64 → IsPlain (word ∷ number n ∷ [])
numbered_plain word n plain fits = plain_line word (number n ∷ []) (plain, (number_plain n fits, tt))

-- ---- lines

pub plain_append : (ls ks : List Line) → ArePlain ls → ArePlain ks → ArePlain (ls ++ ks)
plain_append [] ks ok_ls ok_ks = ok_ks
plain_append (l ∷ ls) ks ok_ls ok_ks = (ok_ls.0, plain_append ls ks ok_ls.1 ok_ks)
