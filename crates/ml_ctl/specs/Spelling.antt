-- Which words are propositions of CTL* and LTL.
--
-- A word is a lower-case letter with the letters, digits and `_` behind it. The words of the constants are reserved: they
-- are no names.
--
--   is_reserved name     == is it tt, true, ff or false?
--   is_proposition name  == a word that isn't reserved
--   is_spelled f         == are all names in f propositions?
--   HasShortNames f      == no name in f has more bytes than a name may have
use Rattle.std.specs.Prelude.{ℕ, Bool, List}
use Rattle.ml_text.specs.Names.{AreShort, are_spelled}
use Rattle.ml_text.specs.Signs as signs
use Rattle.ml_ctl.specs.Signs.{own}
use Rattle.ml_ctl.specs.Formula.{Formula}
use Rattle.ml_ctl.specs.FormulaNames.{names}

abbrev pub is_reserved : List ℕ → Bool
is_reserved name = signs.is_reserved own name

abbrev pub is_proposition : List ℕ → Bool
is_proposition name = signs.is_proposition own name

abbrev pub is_spelled : Formula → Bool
is_spelled f = are_spelled own (names f)

abbrev pub HasShortNames : Formula → Type 0
HasShortNames f = AreShort (names f)
