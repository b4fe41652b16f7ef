-- Path problems: what a path is asked to show.
--
-- A path problem is a formula of LTL in a sense. Where it is plain, a path is asked for that satisfies the formula, and where
-- it is negated, one that doesn't. A problem of LTL, on structures or on words, has its own formula and sense. A problem of
-- CTL* has a path problem where its whole formula is `E f` or `A f`, and f has no quantifier: it is f, plain for `E f`, so the
-- path shows that it holds, and negated for `A f`, so the path breaks it. The sense of the problem doesn't matter there.
--
--   quantifier_of b      == `E`, and `A` where b is true
--   AsksFor p f negated  == the path problem of p is the formula f, in this sense
--   AsksForSome p        == p has a path problem
--   AsksForNone p        == p has none
--   on_words f negated   == the problem of LTL on words with this formula and sense
use Rattle.std.specs.Prelude.{◌≡◌, Bool, true, false}
use Rattle.ml_ctl.specs.Formula.{Formula, Quantified}
use Rattle.ml_ctl.specs.Sorts.{is_linear}
use Rattle.ml_ctl.specs.declared.term.Quantifier.{Quantifier}
use Rattle.ml_ctl.specs.declared.term.Quantifier.TheVariants.{Exists, Forall}
use Rattle.ml_front.specs.declared.problem.AnyFormula.{AnyFormula}
use Rattle.ml_front.specs.declared.problem.AnyFormula.TheVariants.{Mu, Pdl, Ctl, Ltl, Word}
use Rattle.ml_front.specs.declared.problem.Problem.{Problem}

abbrev pub quantifier_of : Bool → Quantifier
quantifier_of false = Exists
quantifier_of true = Forall

-- of a formula with the sense b
abbrev pub AsksForAs : AnyFormula → Bool → Formula → Bool → Type 0
AsksForAs (Ltl h) b f negated = (f ≡ h) × (negated ≡ b)
AsksForAs (Word h) b f negated = (f ≡ h) × (negated ≡ b)
AsksForAs (Ctl h) b f negated = (h ≡ Quantified (quantifier_of negated) f) × (is_linear f ≡ true)
AsksForAs (Mu h) b f negated = ⊥
AsksForAs (Pdl h) b f negated = ⊥

abbrev pub AsksFor : Problem → Formula → Bool → Type 0
AsksFor p f negated = AsksForAs p.formula p.negated f negated

abbrev pub AsksForSome : Problem → Type 0
AsksForSome p = (f : Formula) × (negated : Bool) × AsksFor p f negated

abbrev pub AsksForNone : Problem → Type 0
AsksForNone p = (f : Formula) (negated : Bool) → ¬ (AsksFor p f negated)

abbrev pub on_words : Formula → Bool → Problem
on_words f negated = record { formula = Word f; negated = negated }
