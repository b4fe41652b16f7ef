-- Which words are propositions, variables and actions of the mu-calculus.
--
-- A word is a letter with the letters, digits and `_` behind it. The words of the constants and of the binders are
-- reserved: they are no names.
--
--   is_reserved name     == is it tt, true, ff, false, mu or nu?
--   is_proposition name  == a word that begins with a lower-case letter and isn't reserved
--   is_variable name     == a word that begins with an upper-case letter
--   is_action name       == a word that isn't reserved, or `_`
--   is_spelled f         == are all names in f propositions, variables and actions where they stand as such?
--   HasShortNames f      == no name in f has more bytes than a name may have
use Rattle.std.specs.Prelude.{ℕ, Bool, List}
use Rattle.ml_text.specs.Names.{AreShort, are_spelled}
use Rattle.ml_text.specs.SignKinds as kinds
use Rattle.ml_text.specs.Signs as signs
use Rattle.ml_text.specs.Signs.{is_upper_word}
use Rattle.ml_mu.specs.Signs.{own}
use Rattle.ml_mu.specs.Formula.{Formula}
use Rattle.ml_mu.specs.FormulaNames.{names}

abbrev pub is_reserved : List ℕ → Bool
is_reserved name = signs.is_reserved own name

abbrev pub is_proposition : List ℕ → Bool
is_proposition name = signs.is_proposition own name

abbrev pub is_variable : List ℕ → Bool
is_variable name = is_upper_word name

abbrev pub is_action : List ℕ → Bool
is_action name = kinds.is_action own name

abbrev pub is_spelled : Formula → Bool
is_spelled f = are_spelled own (names f)

abbrev pub HasShortNames : Formula → Type 0
HasShortNames f = AreShort (names f)
