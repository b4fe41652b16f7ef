-- Propositions: those of a formula, and which words may be some.
--
--   names w              == the names in w with their kinds, in the order of the text
--   propositions w       == the propositions among them
--   is_reserved l p      == is p a word of a constant, or one that the logic l reserves?
--   is_spelled l p       == does the word p begin with a lower-case letter, and is it not reserved?
--   is_proposition l p   == may the word p be a proposition of the logic l, by its spelling and its length?
--   has_enumerations l   == has the logic l formulas that say that exactly one of some propositions is true?
use Rattle.std.specs.Prelude.{ℕ, ◌&&◌, Bool, true, false, not, List, length, nat_le}
use Rattle.ml_base.specs.Name.{longest_name}
use Rattle.ml_bounded.specs.FormulaNames as bounded_names
use Rattle.ml_bounded.specs.Signs as bounded
use Rattle.ml_ctl.specs.FormulaNames as ctl_names
use Rattle.ml_ctl.specs.Signs as ctl
use Rattle.ml_front.specs.declared.logic.Logic.{Logic}
use Rattle.ml_front.specs.declared.logic.Logic.TheVariants as logic
use Rattle.ml_mu.specs.FormulaNames as mu_names
use Rattle.ml_mu.specs.Signs as mu
use Rattle.ml_pdl.specs.FormulaNames as pdl_names
use Rattle.ml_pdl.specs.Signs as pdl
use Rattle.ml_text.specs.Bytes.{is_lower}
use Rattle.ml_text.specs.Names.{KindedName, Proposition, of_kind}
use Rattle.ml_text.specs.Signs as signs
use Rattle.ml_text.specs.Words.{is_word_from}
use Rattle.ml_written.specs.declared.written.Written.{Written}
use Rattle.ml_written.specs.declared.written.Written.TheVariants.{Mu, Pdl, Ctl, Ltl, Word}

abbrev pub names : Written → List KindedName
names (Mu f) = mu_names.names f
names (Pdl f) = pdl_names.names f
names (Ctl f) = ctl_names.names f
names (Ltl f) = bounded_names.names f
names (Word f) = bounded_names.names f

abbrev pub propositions : Written → List (List ℕ)
propositions w = of_kind Proposition (names w)

abbrev pub is_reserved : Logic → List ℕ → Bool
is_reserved logic.Mu p = signs.is_reserved mu.own p
is_reserved logic.Pdl p = signs.is_reserved pdl.own p
is_reserved logic.Ctl p = signs.is_reserved ctl.own p
is_reserved logic.Ltl p = signs.is_reserved bounded.own p
is_reserved logic.Word p = signs.is_reserved bounded.own p

abbrev pub is_spelled : Logic → List ℕ → Bool
is_spelled l p = is_word_from is_lower p && not (is_reserved l p)

abbrev pub is_proposition : Logic → List ℕ → Bool
is_proposition l p = is_spelled l p && nat_le (length p) longest_name

abbrev pub has_enumerations : Logic → Bool
has_enumerations logic.Mu = false
has_enumerations logic.Pdl = false
has_enumerations logic.Ctl = true
has_enumerations logic.Ltl = true
has_enumerations logic.Word = true
