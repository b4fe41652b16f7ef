-- The rules of a line rise by their numbers.
--
--   behind_spelling == behind the rules on kinds and numbers, rising rules with greater numbers rise
--   rules_rise      == so the rules of each place rise
use Rattle.std.proofs.Common.{ℕ, ◌<◌, List, [], ◌∷◌, arith}
use Rattle.ml_lists.specs.Ascending.{IsAscending}
use Rattle.ml_lists.proofs.Ascending.{ascending-one, ascending-cons}
use Rattle.ml_refutation_text.specs.BodyRules.{AtNames, AtSequents, AtTableSequent, AtStacks, AtTableStack, AtEntries, AtEntry, AtSequent, AtLive, AtItem, AtDecision, AtEnd, AtNothing}
use Rattle.ml_refutation_text.specs.Laws.{RulesRise}

behind_spelling : (x : ℕ) (xs : List ℕ) → 22 < x → IsAscending (x ∷ xs) → IsAscending (21 ∷ 22 ∷ x ∷ xs)
behind_spelling x xs low a = ascending-cons 21 22 (x ∷ xs) (omega arith) (ascending-cons 22 x xs low a)

spelling : IsAscending (21 ∷ 22 ∷ [])
spelling = ascending-cons 21 22 [] (omega arith) (ascending-one 22)

one : (x : ℕ) → 22 < x → IsAscending (21 ∷ 22 ∷ x ∷ [])
one x low = behind_spelling x [] low (ascending-one x)

two : (x y : ℕ) → 22 < x → x < y → IsAscending (21 ∷ 22 ∷ x ∷ y ∷ [])
two x y low above = behind_spelling x (y ∷ []) low (ascending-cons x y [] above (ascending-one y))

pub rules_rise : RulesRise
rules_rise v left AtNames = spelling
rules_rise v left (AtSequents names) = spelling
rules_rise v left (AtTableSequent names size rows) = one 25 (omega arith)
rules_rise v left (AtStacks names sequents) = spelling
rules_rise v left (AtTableStack names sequents size rows) = one 27 (omega arith)
rules_rise v left (AtEntries names form) = one 23 (omega arith)
rules_rise v left (AtEntry k entries) = two 24 31 (omega arith) (omega arith)
rules_rise v left (AtSequent k entries) = one 25 (omega arith)
rules_rise v left (AtLive k entries sequent) = one 26 (omega arith)
rules_rise v left (AtItem k entries sequent traces) =
    behind_spelling 27 (28 ∷ 31 ∷ []) (omega arith)
    (ascending-cons 27 28 (31 ∷ []) (omega arith) (ascending-cons 28 31 [] (omega arith) (ascending-one 31)))
rules_rise v left (AtDecision k entries b around) = two 29 30 (omega arith) (omega arith)
rules_rise v left (AtEnd r) = spelling
rules_rise v left (AtNothing r) = ascending-one 21
