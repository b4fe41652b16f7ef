-- Which words are propositions: those of LTL.
--
--   is_spelled f         == are all names in f propositions?
--   HasShortNames f      == no name in f has more bytes than a name may have
use Rattle.std.specs.Prelude.{Bool}
use Rattle.ml_text.specs.Names.{AreShort, are_spelled}
use Rattle.ml_bounded.specs.Formula.{Formula}
use Rattle.ml_bounded.specs.FormulaNames.{names}
use Rattle.ml_bounded.specs.Signs.{own}

abbrev pub is_spelled : Formula → Bool
is_spelled f = are_spelled own (names f)

abbrev pub HasShortNames : Formula → Type 0
HasShortNames f = AreShort (names f)
