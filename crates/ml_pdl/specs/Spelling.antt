-- Which words are propositions and actions of propositional dynamic logic.
--
-- A word is a letter with the letters, digits and `_` behind it. The words of the constants and `repeat` are reserved:
-- they are no names.
--
--   is_reserved name     == is it tt, true, ff, false or repeat?
--   is_proposition name  == a word that begins with a lower-case letter and isn't reserved
--   is_action name       == a word that isn't reserved, or `_`
--   is_spelled f, program_is_spelled p       == are all names there propositions and actions where they stand as such?
--   HasShortNames f, ProgramHasShortNames p  == no name there has more bytes than a name may have
use Rattle.std.specs.Prelude.{ℕ, Bool, List}
use Rattle.ml_text.specs.Names.{AreShort, are_spelled}
use Rattle.ml_text.specs.SignKinds as kinds
use Rattle.ml_text.specs.Signs as signs
use Rattle.ml_pdl.specs.Signs.{own}
use Rattle.ml_pdl.specs.Formula.{Formula, Program}
use Rattle.ml_pdl.specs.FormulaNames.{names, program_names}

abbrev pub is_reserved : List ℕ → Bool
is_reserved name = signs.is_reserved own name

abbrev pub is_proposition : List ℕ → Bool
is_proposition name = signs.is_proposition own name

abbrev pub is_action : List ℕ → Bool
is_action name = kinds.is_action own name

abbrev pub is_spelled : Formula → Bool
is_spelled f = are_spelled own (names f)

abbrev pub program_is_spelled : Program → Bool
program_is_spelled p = are_spelled own (program_names p)

abbrev pub HasShortNames : Formula → Type 0
HasShortNames f = AreShort (names f)

abbrev pub ProgramHasShortNames : Program → Type 0
ProgramHasShortNames p = AreShort (program_names p)
