-- Formulas that are well formed but for their size.
--
--   IsSound f   == f is well formed, but for its size
use Rattle.std.specs.Prelude.{[], IsTrue}
use Rattle.ml_ctl.specs.Sorts as ctl_sorts
use Rattle.ml_ctl.specs.Spelling as ctl
use Rattle.ml_ctl.specs.declared.language.Language.TheVariants as language
use Rattle.ml_mu.specs.Spelling as mu
use Rattle.ml_mu.specs.Variables.{is_bound, is_positive}
use Rattle.ml_pdl.specs.Spelling as pdl
use Rattle.ml_front.specs.declared.problem.AnyFormula.{AnyFormula}
use Rattle.ml_front.specs.declared.problem.AnyFormula.TheVariants.{Mu, Pdl, Ctl, Ltl, Word}

abbrev pub IsSound : AnyFormula → Type 0
IsSound (Mu f) =
    mu.HasShortNames f × IsTrue (mu.is_spelled f) × IsTrue (is_bound [] f) × IsTrue (is_positive f)
IsSound (Pdl f) = pdl.HasShortNames f × IsTrue (pdl.is_spelled f)
IsSound (Ctl f) = ctl.HasShortNames f × IsTrue (ctl.is_spelled f) × IsTrue (ctl_sorts.is_of language.Ctl f)
IsSound (Ltl f) = ctl.HasShortNames f × IsTrue (ctl.is_spelled f) × IsTrue (ctl_sorts.is_of language.Ltl f)
IsSound (Word f) = ctl.HasShortNames f × IsTrue (ctl.is_spelled f) × IsTrue (ctl_sorts.is_of language.Ltl f)
