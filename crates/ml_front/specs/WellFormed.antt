-- Which formulas mean something, and which the program holds.
--
-- What is said of a formula is said by its logic; a further logic adds its line to each of these.
--
--   IsWellFormed f  == f is one of the formulas that the program holds
--   IsMeaningful f  == f means something by its logic: in the mu-calculus its variables are bound and positive; in PDL each
--                      formula does; in CTL* it is a state formula; in LTL each formula does; on words it has no quantifier
use Rattle.std.specs.Prelude.{◌≡◌, true, []}
use Rattle.ml_ctl.specs.Sorts.{is_linear, is_state}
use Rattle.ml_ctl.specs.WellFormed as ctl_formulas
use Rattle.ml_ctl.specs.declared.language.Language.TheVariants as language
use Rattle.ml_mu.specs.Variables.{is_bound, is_positive}
use Rattle.ml_mu.specs.WellFormed as mu_formulas
use Rattle.ml_pdl.specs.WellFormed as pdl_formulas
use Rattle.ml_front.specs.declared.problem.AnyFormula.{AnyFormula}
use Rattle.ml_front.specs.declared.problem.AnyFormula.TheVariants.{Mu, Pdl, Ctl, Ltl, Word}

abbrev pub IsWellFormed : AnyFormula → Type 0
IsWellFormed (Mu f) = mu_formulas.IsWellFormed f
IsWellFormed (Pdl f) = pdl_formulas.IsWellFormed f
IsWellFormed (Ctl f) = ctl_formulas.IsWellFormed language.Ctl f
IsWellFormed (Ltl f) = ctl_formulas.IsWellFormed language.Ltl f
IsWellFormed (Word f) = ctl_formulas.IsWellFormed language.Ltl f

abbrev pub IsMeaningful : AnyFormula → Type 0
IsMeaningful (Mu f) = (is_bound [] f ≡ true) × (is_positive f ≡ true)
IsMeaningful (Pdl f) = Unit {0}
IsMeaningful (Ctl f) = is_state f ≡ true
IsMeaningful (Ltl f) = Unit {0}
IsMeaningful (Word f) = is_linear f ≡ true
