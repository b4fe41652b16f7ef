-- Propositions replaced by formulas, in any logic: what definitions mean, written out.
--
-- The definitions and the formula are of one logic, which says what it is to replace.
--
--   Definition          == a proposition, and the formula for which it stands
--   mu_formula f, pdl_formula f, path_formula f == the formula of the mu-calculus, of PDL, of CTL* or LTL that f is, if it
--                          is one
--   picked pick ds      == the definitions ds, with what pick says that their formulas are
--   replaced ds f       == f with each proposition replaced by the formula for which it stands by ds
use Rattle.std.specs.Prelude.{ℕ, List, [], ◌∷◌, Option, Some, None}
use Rattle.std.specs.Option.{option_map_or}
use Rattle.ml_ctl.specs.Formula as ctl_formulas
use Rattle.ml_ctl.specs.Replaced as ctl
use Rattle.ml_mu.specs.Formula as mu_formulas
use Rattle.ml_mu.specs.Replaced as mu
use Rattle.ml_pdl.specs.Formula as pdl_formulas
use Rattle.ml_pdl.specs.Replaced as pdl
use Rattle.ml_front.specs.declared.problem.AnyFormula.{AnyFormula}
use Rattle.ml_front.specs.declared.problem.AnyFormula.TheVariants.{Mu, Pdl, Ctl, Ltl, Word}

abbrev pub Definition : Type 0
Definition = List ℕ × AnyFormula

abbrev pub mu_formula : AnyFormula → Option mu_formulas.Formula
mu_formula (Mu f) = Some f
mu_formula _ = None

abbrev pub pdl_formula : AnyFormula → Option pdl_formulas.Formula
pdl_formula (Pdl f) = Some f
pdl_formula _ = None

abbrev pub path_formula : AnyFormula → Option ctl_formulas.Formula
path_formula (Ctl f) = Some f
path_formula (Ltl f) = Some f
path_formula (Word f) = Some f
path_formula _ = None

abbrev pub picked : {F : Type 0} → (AnyFormula → Option F) → List Definition → List (List ℕ × F)
picked pick [] = []
picked pick (d ∷ ds) = option_map_or (λ f. (d.0, f) ∷ picked pick ds) (pick d.1) (picked pick ds)

abbrev pub replaced : List Definition → AnyFormula → AnyFormula
replaced ds (Mu f) = Mu (mu.replaced (picked mu_formula ds) f)
replaced ds (Pdl f) = Pdl (pdl.replaced (picked pdl_formula ds) f)
replaced ds (Ctl f) = Ctl (ctl.replaced (picked path_formula ds) f)
replaced ds (Ltl f) = Ltl (ctl.replaced (picked path_formula ds) f)
replaced ds (Word f) = Word (ctl.replaced (picked path_formula ds) f)
