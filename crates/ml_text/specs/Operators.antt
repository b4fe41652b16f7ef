-- The connectives of formulas, which all logics share: how tight they bind, how they are spelled, what they count.
--
--   operator_level o == the level of a connective; a greater level binds tighter
--   spelling_of o    == `&`, `|`, `->` or `<->`
--   weight o         == as how many symbols a connective counts
--   truth_of o a b   == the truth table of a connective
use Rattle.std.specs.Prelude.{ℕ, Bool, ◌&&◌, ◌||◌, not, List, codes}
use Rattle.ml_text.specs.declared.token.Operator.{Operator}
use Rattle.ml_text.specs.declared.token.Operator.TheVariants.{Iff, Implies, Or, And}

abbrev pub operator_level : Operator → ℕ
operator_level Iff = 0
operator_level Implies = 1
operator_level Or = 2
operator_level And = 3

abbrev pub spelling_of : Operator → List ℕ
spelling_of And = codes "&"
spelling_of Or = codes "|"
spelling_of Implies = codes "->"
spelling_of Iff = codes "<->"

-- iff counts as three
abbrev pub weight : Operator → ℕ
weight Iff = 3
weight _ = 1

abbrev pub truth_of : Operator → Bool → Bool → Bool
truth_of And a b = a && b
truth_of Or a b = a || b
truth_of Implies a b = not a || b
truth_of Iff a b = (not a || b) && (not b || a)
