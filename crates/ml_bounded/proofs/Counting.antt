-- What a text counts is what its formula has.
--
--   count_signs ts  == the occurrences that the signs count
--   counts          == what is read has as many occurrences as its signs count
use Rattle.std.proofs.Common.{◌≡◌, ℕ, ◌+◌, List, refl, arith}
use Rattle.ml_text.specs.Levels.{Level}
use Rattle.ml_text.proofs.TableItems.{count_from}
use Rattle.ml_bounded.specs.Formula.{Formula, occurrences}
use Rattle.ml_bounded.specs.declared.term.Bound.{Bound}
use Rattle.ml_bounded.specs.Signs.{Sign}
use Rattle.ml_bounded.specs.Grammar.{ReadsDigits, last, digit, ReadsNumber, number, ReadsBound, next, within}
use Rattle.ml_bounded.specs.Grammar.{Reads, alone, joined, pair_alone, pair, negation, temporal, bounded}
use Rattle.ml_bounded.specs.Grammar.{group, constant, proposition}
use Rattle.ml_bounded.specs.Text.{bounded_signs}

abbrev pub count_signs : List Sign → ℕ
count_signs = count_from bounded_signs tt

digits_count : {ts rest : List Sign} → ReadsDigits ts rest → count_signs ts ≡ count_signs rest
digits_count last = refl
digits_count (digit d) = let x = digits_count d in omega (arith, x)

number_counts : {n : ℕ} {ts rest : List Sign} → ReadsNumber n ts rest → count_signs ts ≡ count_signs rest
number_counts (number n d) = let x = digits_count d in omega (arith, x)

bound_counts : {b : Bound} {ts rest : List Sign} → ReadsBound b ts rest → count_signs ts ≡ 1 + count_signs rest
bound_counts (next n r) = let x = number_counts r in omega (arith, x)
bound_counts (within e m n le a b) = let x = number_counts a in let y = number_counts b in omega (arith, x, y)

pub counts : {l : Level} {ts rest : List Sign} {f : Formula}
    → Reads l ts f rest
    → count_signs ts ≡ occurrences f + count_signs rest
counts (alone o r) = counts r
counts (joined o a b) = let x = counts a in let y = counts b in omega (arith, x, y)
counts (pair_alone r) = counts r
counts (pair p a b) = let x = counts a in let y = counts b in omega (arith, x, y)
counts (negation r) = let x = counts r in omega (arith, x)
counts (temporal t r) = let x = counts r in omega (arith, x)
counts (bounded b is r) = let x = bound_counts is in let y = counts r in omega (arith, x, y)
counts (group r) = let x = counts r in omega (arith, x)
counts (constant b) = omega arith
counts (proposition p) = omega arith
