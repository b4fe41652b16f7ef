-- The formulas of CTL*, as plain data.
--
-- One type holds what textbooks keep apart: state formulas, which hold at a state, and path formulas, which hold along a
-- path. A state formula is one whose temporal operators stand under quantifiers alone; so each state formula is a path
-- formula too. A formula without quantifiers is one of LTL. The four binary connectives are one case, with the
-- connective as a part; so are the operators X, F and G, the operators U, R and W, and the two quantifiers. Names are
-- lists of bytes. Nothing is excluded here: how names have to be spelt (`Spelling.antt`) is said of a formula, not built
-- in.
--
--   Formula        == the formulas: constants, propositions, negations, connectives, temporal operators, quantifiers
--   Operator       == and, or, implies, iff (of `ml_text`, since all logics share them)
--   Tense          == next (X), finally (F) or globally (G)
--   Pairing        == until (U), release (R) or weak until (W)
--   Quantifier     == some path (E) or every path (A)
--   occurrences f  == the number of symbols of f, where iff counts as three
--   Language       == CTL* or LTL
use Rattle.std.specs.Prelude.{ℕ, ◌+◌, Bool, List}
use Rattle.ml_text.specs.declared.token.Operator.{Operator}
use Rattle.ml_text.specs.Operators.{weight}
use Rattle.ml_ctl.specs.declared.term.Tense.{Tense}
use Rattle.ml_ctl.specs.declared.term.Pairing.{Pairing}
use Rattle.ml_ctl.specs.declared.term.Quantifier.{Quantifier}

pub data Formula : Type 0 where
  Const : Bool → Formula
  Prop : List ℕ → Formula
  Not : Formula → Formula
  Binary : Operator → Formula → Formula → Formula
  Temporal : Tense → Formula → Formula
  Paired : Pairing → Formula → Formula → Formula
  Quantified : Quantifier → Formula → Formula

abbrev pub occurrences : Formula → ℕ
occurrences (Not f) = 1 + occurrences f
occurrences (Binary op f g) = weight op + occurrences f + occurrences g
occurrences (Temporal t f) = 1 + occurrences f
occurrences (Paired p f g) = 1 + occurrences f + occurrences g
occurrences (Quantified q f) = 1 + occurrences f
occurrences _ = 1
