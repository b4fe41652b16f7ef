-- Formulas of any logic, made of others: negations, conjunctions, and how large they are.
--
--   truth l          == `tt` in the logic l
--   negation f       == `!f`
--   both f g         == `f & g`; of formulas of two logics, where nobody asks, f
--   all_of f gs      == f and the formulas gs behind it, grouped to the left by AND
--   joined l fs      == the formulas fs, grouped to the left by AND; `tt` where there is none
--   occurrences f    == how many occurrences f has in its logic
--   AreOf l fs       == the formulas fs are of the logic l
use Rattle.std.specs.Prelude.{ℕ, ◌≡◌, true, List, [], ◌∷◌}
use Rattle.std.specs.List.{AllByRecursion}
use Rattle.ml_text.specs.declared.token.Operator.TheVariants.{And}
use Rattle.ml_ctl.specs.Formula as ctl
use Rattle.ml_mu.specs.Formula as mu
use Rattle.ml_pdl.specs.Formula as pdl
use Rattle.ml_front.specs.Logics.{logic_of}
use Rattle.ml_front.specs.declared.logic.Logic.{Logic}
use Rattle.ml_front.specs.declared.logic.Logic.TheVariants as logic
use Rattle.ml_front.specs.declared.problem.AnyFormula.{AnyFormula}
use Rattle.ml_front.specs.declared.problem.AnyFormula.TheVariants.{Mu, Pdl, Ctl, Ltl, Word}

abbrev pub truth : Logic → AnyFormula
truth logic.Mu = Mu (mu.Const true)
truth logic.Pdl = Pdl (pdl.Const true)
truth logic.Ctl = Ctl (ctl.Const true)
truth logic.Ltl = Ltl (ctl.Const true)
truth logic.Word = Word (ctl.Const true)

abbrev pub negation : AnyFormula → AnyFormula
negation (Mu f) = Mu (mu.Not f)
negation (Pdl f) = Pdl (pdl.Not f)
negation (Ctl f) = Ctl (ctl.Not f)
negation (Ltl f) = Ltl (ctl.Not f)
negation (Word f) = Word (ctl.Not f)

abbrev pub both : AnyFormula → AnyFormula → AnyFormula
both (Mu f) (Mu g) = Mu (mu.Binary And f g)
both (Pdl f) (Pdl g) = Pdl (pdl.Binary And f g)
both (Ctl f) (Ctl g) = Ctl (ctl.Binary And f g)
both (Ltl f) (Ltl g) = Ltl (ctl.Binary And f g)
both (Word f) (Word g) = Word (ctl.Binary And f g)
both f g = f

abbrev pub all_of : AnyFormula → List AnyFormula → AnyFormula
all_of f [] = f
all_of f (g ∷ gs) = all_of (both f g) gs

abbrev pub joined : Logic → List AnyFormula → AnyFormula
joined l [] = truth l
joined l (f ∷ fs) = all_of f fs

abbrev pub occurrences : AnyFormula → ℕ
occurrences (Mu f) = mu.occurrences f
occurrences (Pdl f) = pdl.occurrences f
occurrences (Ctl f) = ctl.occurrences f
occurrences (Ltl f) = ctl.occurrences f
occurrences (Word f) = ctl.occurrences f

abbrev pub AreOf : Logic → List AnyFormula → Type 0
AreOf l fs = AllByRecursion (λ f. logic_of f ≡ l) fs
