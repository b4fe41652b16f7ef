-- Enumerations: exactly one of some propositions is true at each moment.
--
-- CTL* and LTL have such formulas, those of words are those of LTL; the mu-calculus and PDL have none here.
--
--   enumeration l ps   == the formula of the logic l that says so of the propositions ps; None in the mu-calculus and in PDL
use Rattle.std.specs.Prelude.{ℕ, List, Option, Some, None}
use Rattle.ml_ctl.specs.Enumerations as ctl
use Rattle.ml_ctl.specs.declared.language.Language.TheVariants as language
use Rattle.ml_front.specs.declared.logic.Logic.{Logic}
use Rattle.ml_front.specs.declared.logic.Logic.TheVariants as logic
use Rattle.ml_front.specs.declared.problem.AnyFormula.{AnyFormula}
use Rattle.ml_front.specs.declared.problem.AnyFormula.TheVariants.{Ctl, Ltl, Word}

abbrev pub enumeration : Logic → List (List ℕ) → Option AnyFormula
enumeration logic.Mu ps = None
enumeration logic.Pdl ps = None
enumeration logic.Ctl ps = Some (Ctl (ctl.enumeration language.Ctl ps))
enumeration logic.Ltl ps = Some (Ltl (ctl.enumeration language.Ltl ps))
enumeration logic.Word ps = Some (Word (ctl.enumeration language.Ltl ps))
