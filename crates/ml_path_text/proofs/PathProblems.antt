-- Path problems: a problem has one at most, and its formula is one of LTL.
--
--   some_or_none  == a problem has a path problem or none
--   one_problem   == it has one at most
--   asked_linear  == its formula has no quantifier
--   asked_well    == and is one that the program holds
--   asks_behind   == what stands behind a quantifier is its formula
--   asks_none     == a formula that begins with none has no path problem
use Rattle.std.proofs.Common.{◌≡◌, ◌⊎◌, Bool, true, false, inl, inr, refl, sym, ap, subst, ◌∙◌, arith}
use Rattle.ml_ctl.specs.Formula.{Binary, Const, Formula, Not, Paired, Prop, Quantified, Temporal}
use Rattle.ml_ctl.specs.Quantifiers.{Quantifies, QuantifiesNone}
use Rattle.ml_ctl.specs.Sorts.{is_linear}
use Rattle.ml_ctl.specs.WellFormed as ctl
use Rattle.ml_ctl.specs.declared.language.Language.TheVariants as language
use Rattle.ml_ctl.specs.declared.term.Quantifier.{Quantifier}
use Rattle.ml_ctl.specs.declared.term.Quantifier.TheVariants.{Exists, Forall}
use Rattle.ml_ctl.proofs.Connected.{operand_is_held}
use Rattle.ml_front.specs.WellFormed.{IsWellFormed}
use Rattle.ml_front.specs.declared.problem.AnyFormula.{AnyFormula}
use Rattle.ml_front.specs.declared.problem.AnyFormula.TheVariants.{Mu, Pdl, Ctl, Ltl, Word}
use Rattle.ml_front.specs.declared.problem.Problem.{Problem}
use Rattle.ml_path_text.specs.PathProblems.{AsksFor, AsksForAs, AsksForNone, AsksForSome, quantifier_of}

-- ---- formulas that begin with a quantifier

abbrev operand : Formula → Formula
operand (Quantified q f) = f
operand f = f

abbrev quantifier : Formula → Quantifier
quantifier (Quantified q f) = q
quantifier f = Exists

one_behind : (h f g : Formula) (b c : Bool)
    → h ≡ Quantified (quantifier_of b) f
    → h ≡ Quantified (quantifier_of c) g
    → (f ≡ g) × (b ≡ c)
one_behind h f g false false x y = (ap operand (sym x ∙ y), refl)
one_behind h f g true true x y = (ap operand (sym x ∙ y), refl)
one_behind h f g false true x y = let wrong : Exists ≡ Forall = ap quantifier (sym x ∙ y) in absurd cc
one_behind h f g true false x y = let wrong : Forall ≡ Exists = ap quantifier (sym x ∙ y) in absurd cc

-- ---- some or none

abbrev SomeAs : AnyFormula → Bool → Type 0
SomeAs h b = (f : Formula) × (negated : Bool) × AsksForAs h b f negated

abbrev NoneAs : AnyFormula → Bool → Type 0
NoneAs h b = (f : Formula) (negated : Bool) → ¬ (AsksForAs h b f negated)

-- a quantifier is that of one sense
sense_of : (q : Quantifier) → (negated : Bool) × (q ≡ quantifier_of negated)
sense_of Exists = (false, refl)
sense_of Forall = (true, refl)

pub none_behind : (q : Quantifier) (f : Formula) (b : Bool) → is_linear f ≡ false → NoneAs (Ctl (Quantified q f)) b
none_behind q f b is g negated asks =
    let same : f ≡ g = ap operand asks.0 in
    let linear = asks.1 in
    cc

behind : (q : Quantifier) (f : Formula) (b linear : Bool) → is_linear f ≡ linear
    → SomeAs (Ctl (Quantified q f)) b ⊎ NoneAs (Ctl (Quantified q f)) b
behind q f b true is = let sense = sense_of q in inl (f, sense.0, (ap (λ r. Quantified r f) sense.1, is))
behind q f b false is = inr (none_behind q f b is)

some_or_none_as : (h : AnyFormula) (b : Bool) → SomeAs h b ⊎ NoneAs h b
some_or_none_as (Mu h) b = inr (λ f negated asks. asks)
some_or_none_as (Pdl h) b = inr (λ f negated asks. asks)
some_or_none_as (Ltl h) b = inl (h, b, (refl, refl))
some_or_none_as (Word h) b = inl (h, b, (refl, refl))
some_or_none_as (Ctl (Quantified q f)) b = behind q f b (is_linear f) refl
some_or_none_as (Ctl (Const v)) b = inr (λ f negated asks. let is = asks.0 in cc)
some_or_none_as (Ctl (Prop p)) b = inr (λ f negated asks. let is = asks.0 in cc)
some_or_none_as (Ctl (Not h)) b = inr (λ f negated asks. let is = asks.0 in cc)
some_or_none_as (Ctl (Binary op h g)) b = inr (λ f negated asks. let is = asks.0 in cc)
some_or_none_as (Ctl (Temporal t h)) b = inr (λ f negated asks. let is = asks.0 in cc)
some_or_none_as (Ctl (Paired r h g)) b = inr (λ f negated asks. let is = asks.0 in cc)

pub some_or_none : (p : Problem) → AsksForSome p ⊎ AsksForNone p
some_or_none p = some_or_none_as p.formula p.negated

-- ---- one at most

one_as : (h : AnyFormula) (d : Bool) (f g : Formula) (b c : Bool)
    → AsksForAs h d f b
    → AsksForAs h d g c
    → (f ≡ g) × (b ≡ c)
one_as (Ltl h) d f g b c x y = (x.0 ∙ sym y.0, x.1 ∙ sym y.1)
one_as (Word h) d f g b c x y = (x.0 ∙ sym y.0, x.1 ∙ sym y.1)
one_as (Ctl h) d f g b c x y = one_behind h f g b c x.0 y.0
one_as (Mu h) d f g b c x y = absurd x
one_as (Pdl h) d f g b c x y = absurd x

pub one_problem : (p : Problem) (f g : Formula) (b c : Bool) → AsksFor p f b → AsksFor p g c → (f ≡ g) × (b ≡ c)
one_problem p f g b c x y = one_as p.formula p.negated f g b c x y

-- ---- of LTL

well_as : (h : AnyFormula) (d : Bool) (f : Formula) (b : Bool)
    → AsksForAs h d f b
    → IsWellFormed h
    → ctl.IsWellFormed language.Ltl f
well_as (Ltl h) d f b x well = subst (ctl.IsWellFormed language.Ltl) (sym x.0) well
well_as (Word h) d f b x well = subst (ctl.IsWellFormed language.Ltl) (sym x.0) well
well_as (Ctl h) d f b x well =
    operand_is_held (quantifier_of b) f (subst (ctl.IsWellFormed language.Ctl) x.0 well) x.1
well_as (Mu h) d f b x well = absurd x
well_as (Pdl h) d f b x well = absurd x

pub asked_well : (p : Problem) (f : Formula) (b : Bool)
    → AsksFor p f b
    → IsWellFormed p.formula
    → ctl.IsWellFormed language.Ltl f
asked_well p f b x well = well_as p.formula p.negated f b x well

pub asked_linear : (p : Problem) (f : Formula) (b : Bool) → AsksFor p f b → IsWellFormed p.formula → is_linear f ≡ true
asked_linear p f b x well = (asked_well p f b x well).is_of_logic

-- ---- what stands behind a quantifier

pub asks_behind : (h : Formula) (q : Quantifier) (f : Formula) (b negated : Bool)
    → Quantifies h q f
    → q ≡ quantifier_of negated
    → AsksForAs (Ctl h) b f negated
asks_behind h q f b negated is sense = (is.0 ∙ ap (λ r. Quantified r f) sense, is.1)

pub asks_none : (h : Formula) (b : Bool) → QuantifiesNone h → NoneAs (Ctl h) b
asks_none h b none f negated asks = none (quantifier_of negated) f asks
