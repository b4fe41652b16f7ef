-- The problems of families.
--
--   family_problem    == the text of a family for a number of its range stands for a problem
--   one_family_problem == and for one at most
--   family_not_refused == so it is refused for want of memory alone
use Rattle.std.proofs.Common.{◌≡◌, ℕ, true, false, List, ap₂, refl, sym, subst, ◌∙◌}
use Rattle.ml_base.specs.declared.parse_refusal.ParseRefusal.{ParseRefusal}
use Rattle.ml_base.specs.declared.parse_refusal.ParseRefusal.TheVariants as refusal
use Rattle.ml_front.specs.Logics.{IsParsedAs, IsRefusedBy, logic_of, some_logic}
use Rattle.ml_front.specs.declared.logic.Logic.{Logic}
use Rattle.ml_front.specs.declared.problem.AnyFormula.{AnyFormula}
use Rattle.ml_front.specs.declared.problem.AnyFormula.TheVariants.{Mu, Pdl, Ltl}
use Rattle.ml_front.specs.declared.problem.Problem.{Problem}
use Rattle.ml_front.proofs.Logics.{formula_once, formula_or_refused}
use Rattle.ml_gen.specs.Families.{formula_text, logic_name}
use Rattle.ml_gen.specs.FamilyRanges.{is_in_range}
use Rattle.ml_gen.specs.Formulas.{and_formula, fair_formula, loop_formula, or_formula, step_formula}
use Rattle.ml_gen.specs.declared.family.Family.{Family}
use Rattle.ml_gen.specs.declared.family.Family.TheVariants.{And, Or, Step, Fair, Loop}
use Rattle.ml_gen.proofs.FamilyTexts.{are_parsed}
use Rattle.ml_driver.specs.Bench.{IsMeant}

meant : (f : Family) (n : ℕ) (formula : AnyFormula)
    → logic_of formula ≡ some_logic (logic_name f)
    → IsParsedAs (formula_text f n) formula
    → (p : Problem) × IsMeant f n p
meant f n formula of_logic parsed =
    (record { formula = formula; negated = false }, record { of_logic = of_logic; is_plain = refl; is_parsed = parsed })

pub family_problem : (f : Family) (n : ℕ) → is_in_range f n ≡ true → (p : Problem) × IsMeant f n p
family_problem And n is = meant And n (Mu (and_formula n)) refl (are_parsed And n is)
family_problem Or n is = meant Or n (Mu (or_formula n)) refl (are_parsed Or n is)
family_problem Step n is = meant Step n (Pdl (step_formula n)) refl (are_parsed Step n is)
family_problem Fair n is = meant Fair n (Ltl (fair_formula n)) refl (are_parsed Fair n is)
family_problem Loop n is = meant Loop n (Pdl (loop_formula n)) refl (are_parsed Loop n is)

pub one_family_problem : (f : Family) (n : ℕ) (p r : Problem) → IsMeant f n p → IsMeant f n r → p ≡ r
one_family_problem f n p r x y =
    let same = formula_once (formula_text f n) p.formula r.formula (x.of_logic ∙ sym y.of_logic) x.is_parsed y.is_parsed in
    ap₂ (λ g b. record { formula = g; negated = b }) same (x.is_plain ∙ sym y.is_plain)

pub family_not_refused : (f : Family) (n : ℕ) (l : Logic) (text : List ℕ) (e : ParseRefusal)
    → is_in_range f n ≡ true
    → l ≡ some_logic (logic_name f)
    → text ≡ formula_text f n
    → IsRefusedBy l text e
    → e ≡ refusal.NoMemory
family_not_refused f n l text e is of_logic written refused =
    let made = family_problem f n is in
    let parsed = subst (λ t. IsParsedAs t made.0.formula) (sym written) made.1.is_parsed in
    formula_or_refused l text made.0.formula e (made.1.of_logic ∙ sym of_logic) parsed refused
