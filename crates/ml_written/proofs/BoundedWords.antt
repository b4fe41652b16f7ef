-- LTL with bounds: the words of the signs that begin in lower case are the names of the formula that do.
--
--   Passes ts rest   == the signs ts have no such words but those of rest
--   bound_passes     == a bounded operator has none
--   bounded_told     == so of what is read from signs
use Rattle.std.proofs.Common.{◌≡◌, ℕ, List, [], ◌++◌, refl, sym, ap, ◌∙◌}
use Rattle.ml_text.specs.Levels.{Level}
use Rattle.ml_text.specs.Names.{Proposition}
use Rattle.ml_bounded.specs.Formula.{Formula}
use Rattle.ml_bounded.specs.FormulaNames.{names}
use Rattle.ml_bounded.specs.Grammar.{ReadsDigits, last, digit, ReadsNumber, number, ReadsBound, next, within}
use Rattle.ml_bounded.specs.Grammar.{Reads, alone, joined, pair_alone, pair, negation, temporal, bounded}
use Rattle.ml_bounded.specs.Grammar.{group, constant, proposition}
use Rattle.ml_bounded.specs.Signs.{Sign}
use Rattle.ml_bounded.specs.declared.term.Bound.{Bound}
use Rattle.ml_written.proofs.LowerNames.{All, Tells, both_told, lower_one, lower_words}

abbrev Passes : List Sign → List Sign → Type 0
Passes ts rest = (lower_words ts ≡ lower_words rest) × All rest

digits_pass : {ts rest : List Sign} → ReadsDigits ts rest → All ts → Passes ts rest
digits_pass last is = (refl, is)
digits_pass (digit d) is = digits_pass d is.1

number_passes : {n : ℕ} {ts rest : List Sign} → ReadsNumber n ts rest → All ts → Passes ts rest
number_passes (number n d) is = digits_pass d is.1

bound_passes : {b : Bound} {ts rest : List Sign} → ReadsBound b ts rest → All ts → Passes ts rest
bound_passes (next n r) is = let x = number_passes r (is.1).1 in (x.0, (x.1).1)
bound_passes (within e m n le a b) is =
    let x = number_passes a (is.1).1 in
    let y = number_passes b (x.1).1 in
    (x.0 ∙ y.0, (y.1).1)

pub bounded_told : {l : Level} {ts rest : List Sign} {f : Formula} → Reads l ts f rest → All ts → Tells (names f) ts rest
bounded_told (alone o r) is = bounded_told r is
bounded_told (joined {ts = ts} {us = us} {rest = rest} {f = f} {g = g} o a b) is =
    let x = bounded_told a is in both_told (names f) (names g) ts us rest x.0 (bounded_told b (x.1).1)
bounded_told (pair_alone r) is = bounded_told r is
bounded_told (pair {ts = ts} {us = us} {rest = rest} {f = f} {g = g} p a b) is =
    let x = bounded_told a is in both_told (names f) (names g) ts us rest x.0 (bounded_told b (x.1).1)
bounded_told (negation r) is = bounded_told r is.1
bounded_told (temporal t r) is = bounded_told r is.1
bounded_told (bounded b begins r) is =
    let x = bound_passes begins is in
    let y = bounded_told r x.1 in
    (x.0 ∙ y.0, y.1)
bounded_told (group r) is = let x = bounded_told r is.1 in (x.0, (x.1).1)
bounded_told (constant b) is = (refl, is.1)
bounded_told (proposition {rest = rest} p) is =
    (ap (λ l. l ++ lower_words rest) (sym (lower_one Proposition p [] is.0)), is.1)
