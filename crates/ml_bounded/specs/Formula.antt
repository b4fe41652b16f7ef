-- The formulas of LTL with bounded operators, as plain data.
--
-- They are those of LTL (`ml_ctl/specs/Formula.antt`, without quantifiers), and have one case more: a bounded operator with its
-- operand. What a bounded operator stands for is said where it is written out (`WrittenOut.antt`).
--
--   Bound          == `X[n]`, `F[m:n]` or `G[m:n]`: next with its number, or a reach with two
--   Reach          == eventually (F) or always (G)
--   Formula        == constants, propositions, negations, connectives, temporal operators, bounded operators
--   occurrences f  == the number of symbols of f, where iff counts as three and a bounded operator as one
use Rattle.std.specs.Prelude.{ℕ, ◌+◌, Bool, List}
use Rattle.ml_text.specs.declared.token.Operator.{Operator}
use Rattle.ml_text.specs.Operators.{weight}
use Rattle.ml_ctl.specs.declared.term.Tense.{Tense}
use Rattle.ml_ctl.specs.declared.term.Pairing.{Pairing}
use Rattle.ml_bounded.specs.declared.term.Bound.{Bound}

pub data Formula : Type 0 where
  Const : Bool → Formula
  Prop : List ℕ → Formula
  Not : Formula → Formula
  Binary : Operator → Formula → Formula → Formula
  Temporal : Tense → Formula → Formula
  Paired : Pairing → Formula → Formula → Formula
  Bounded : Bound → Formula → Formula

abbrev pub occurrences : Formula → ℕ
occurrences (Not f) = 1 + occurrences f
occurrences (Binary op f g) = weight op + occurrences f + occurrences g
occurrences (Temporal t f) = 1 + occurrences f
occurrences (Paired p f g) = 1 + occurrences f + occurrences g
occurrences (Bounded b f) = 1 + occurrences f
occurrences _ = 1
