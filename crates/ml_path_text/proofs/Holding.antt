-- Where a problem holds, by its path problem.
--
--   IsShownFrom m s f b == some path from s shows the path problem
--   shown_holds         == where the problem has the sense of its path problem, it holds if one does
--   holds_shown         == and only then
--   shown_fails         == where it has the other sense, it doesn't hold if one does
--   none_holds          == and holds if none does
use Rattle.std.proofs.Common.{ℕ, ◌≡◌, ◌≢◌, ◌<◌, ⊎_elim, Bool, true, false, refl, sym, subst, ◌∙◌, arith}
use Rattle.std.proofs.lemmas.Bool.{cases_Bool, false≢true}
use Rattle.ml_base.specs.Structure.{Structure}
use Rattle.ml_ctl.specs.Formula.{Formula, Quantified}
use Rattle.ml_ctl.specs.Meaning as meaning
use Rattle.ml_ctl.specs.Meaning.{Satisfies}
use Rattle.ml_ctl.specs.Paths.{IsPathFrom}
use Rattle.ml_ctl.specs.Problem as ctl
use Rattle.ml_ctl.specs.Sorts.{is_linear}
use Rattle.ml_lists.specs.Lasso.{Lasso}
use Rattle.ml_word_graph.specs.Problem as words
use Rattle.ml_word_graph.proofs.StateValues.{says_value, value}
use Rattle.ml_word_graph.proofs.Values.{Says, says_truth, truth}
use Rattle.ml_word_graph.proofs.Words.{a_word}
use Rattle.ml_front.specs.Logics.{logic_of}
use Rattle.ml_front.specs.Problems.{HoldsAs, HoldsAt, IsAdmitted}
use Rattle.ml_front.specs.declared.problem.AnyFormula.{AnyFormula}
use Rattle.ml_front.specs.declared.problem.AnyFormula.TheVariants.{Mu, Pdl, Ctl, Ltl, Word}
use Rattle.ml_front.specs.declared.problem.Problem.{Problem}
use Rattle.ml_paths.specs.Paths.{IsShown}
use Rattle.ml_path_text.specs.PathProblems.{AsksFor, AsksForAs, quantifier_of}

abbrev pub IsShownFrom : Structure → ℕ → Formula → Bool → Type 0
IsShownFrom m s f negated = (l : Lasso) × IsShown m s f negated l

module _ (m : Structure) (s : ℕ) (f : Formula) (linear : is_linear f ≡ true) where
  -- ---- on words one path goes from the state

  module _ (ok : words.IsAdmitted m) (low : s < m.states) where
    says : (l : Lasso) → IsPathFrom m s l → Says (Satisfies m l f) (value m ok f s)
    says l from =
        let starts = from.is_path.starts in
        let first_low = subst (λ t. t < m.states) (sym from.starts_at) low in
        subst (λ t. Says (Satisfies m l f) (value m ok f t)) from.starts_at
        (says_value m ok l from.is_path 0 (starts, omega (arith, starts)) first_low f linear)

    on_word : (b : Bool) → IsShownFrom m s f b → words.HoldsAt m s f b
    on_word false (l, x) =
        let w = a_word m ok s low in
        (w.0, w.1, (says w.0 w.1.is_path).1 ((says l x.is_path).0 x.satisfies))
    on_word true (l, x) =
        let w = a_word m ok s low in
        (w.0, w.1, λ there. x.satisfies ((says l x.is_path).1 ((says w.0 w.1.is_path).0 there)))

  word_shown : (b : Bool) → words.HoldsAt m s f b → IsShownFrom m s f b
  word_shown false (l, w, there) = (l, record { is_path = w.is_path; satisfies = there })
  word_shown true (l, w, there) = (l, record { is_path = w.is_path; satisfies = there })

  -- ---- under a quantifier

  abbrev Quantifies : Bool → Type 0
  Quantifies b = meaning.HoldsAt m (Quantified (quantifier_of b) f) s

  some_shows : Quantifies false → IsShownFrom m s f false
  some_shows (l, from, there) = (l, record { is_path = from; satisfies = there })

  shows_some : IsShownFrom m s f false → Quantifies false
  shows_some (l, x) = (l, x.is_path, x.satisfies)

  not_all : IsShownFrom m s f true → Quantifies true → ⊥
  not_all (l, x) all = x.satisfies (all l x.is_path)

  -- since it is decided whether a path satisfies a formula without quantifiers
  all_where_none : ¬ (IsShownFrom m s f true) → Quantifies true
  all_where_none none l from =
      let tells = says_truth m l f linear 0 in
      ⊎_elim (λ (e : truth m l f 0 ≡ true). tells.1 e)
      (λ (e : truth m l f 0 ≡ false).
      absurd (none (l, record { is_path = from; satisfies = λ there. false≢true (sym e ∙ tells.0 there) })))
      (cases_Bool (truth m l f 0))

  -- ---- in the sense of the path problem

  ctl_shown_holds : (b : Bool) → IsShownFrom m s f b → ctl.HoldsAt m s (Quantified (quantifier_of b) f) b
  ctl_shown_holds false shown = shows_some shown
  ctl_shown_holds true shown = not_all shown

  ctl_holds_shown : (b : Bool)
      → ctl.HoldsAt m s (Quantified (quantifier_of b) f) b
      → ¬ (¬ (IsShownFrom m s f b))
  ctl_holds_shown false there none = none (some_shows there)
  ctl_holds_shown true there none = there (all_where_none none)

  -- ---- in the other sense

  ctl_shown_fails : (b d : Bool) → d ≢ b
      → IsShownFrom m s f b
      → ¬ (ctl.HoldsAt m s (Quantified (quantifier_of b) f) d)
  ctl_shown_fails false false other shown there = other refl
  ctl_shown_fails true true other shown there = other refl
  ctl_shown_fails false true other shown there = there (shows_some shown)
  ctl_shown_fails true false other shown there = not_all shown there

  ctl_none_holds : (b d : Bool) → d ≢ b
      → ¬ (IsShownFrom m s f b)
      → ctl.HoldsAt m s (Quantified (quantifier_of b) f) d
  ctl_none_holds false false other none = absurd (other refl)
  ctl_none_holds true true other none = absurd (other refl)
  ctl_none_holds false true other none = λ there. none (some_shows there)
  ctl_none_holds true false other none = all_where_none none

-- ---- of any problem

ltl_holds : (m : Structure) (s : ℕ) (f : Formula) (b : Bool) → IsShownFrom m s f b → HoldsAs m s b (Ltl f)
ltl_holds m s f b (l, x) = (l, x.is_path, x.satisfies)

ltl_shown : (m : Structure) (s : ℕ) (f : Formula) (b : Bool) → HoldsAs m s b (Ltl f) → IsShownFrom m s f b
ltl_shown m s f b (l, from, there) = (l, record { is_path = from; satisfies = there })

module _ (m : Structure) (s : ℕ) (low : s < m.states) (f : Formula) (linear : is_linear f ≡ true) (b : Bool) where
  shown_holds_as : (h : AnyFormula) (d : Bool)
      → AsksForAs h d f b
      → IsAdmitted (logic_of h) m
      → d ≡ b
      → IsShownFrom m s f b
      → HoldsAs m s d h
  shown_holds_as (Ltl h) d asks ok same shown =
      subst (λ e. HoldsAs m s e (Ltl h)) asks.1 (subst (λ g. HoldsAs m s b (Ltl g)) asks.0 (ltl_holds m s f b shown))
  shown_holds_as (Word h) d asks ok same shown =
      subst (λ e. HoldsAs m s e (Word h)) asks.1
      (subst (λ g. HoldsAs m s b (Word g)) asks.0 (on_word m s f linear ok low b shown))
  shown_holds_as (Ctl h) d asks ok same shown =
      subst (λ e. HoldsAs m s e (Ctl h)) (sym same)
      (subst (λ g. HoldsAs m s b (Ctl g)) (sym asks.0) (ctl_shown_holds m s f linear b shown))
  shown_holds_as (Mu h) d asks ok same shown = absurd asks
  shown_holds_as (Pdl h) d asks ok same shown = absurd asks

  holds_shown_as : (h : AnyFormula) (d : Bool)
      → AsksForAs h d f b
      → d ≡ b
      → HoldsAs m s d h
      → ¬ (¬ (IsShownFrom m s f b))
  holds_shown_as (Ltl h) d asks same there none =
      none (ltl_shown m s f b
      (subst (λ g. HoldsAs m s b (Ltl g)) (sym asks.0) (subst (λ e. HoldsAs m s e (Ltl h)) same there)))
  holds_shown_as (Word h) d asks same there none =
      none (word_shown m s f linear b
      (subst (λ g. HoldsAs m s b (Word g)) (sym asks.0) (subst (λ e. HoldsAs m s e (Word h)) same there)))
  holds_shown_as (Ctl h) d asks same there none =
      ctl_holds_shown m s f linear b
      (subst (λ g. HoldsAs m s b (Ctl g)) asks.0 (subst (λ e. HoldsAs m s e (Ctl h)) same there)) none
  holds_shown_as (Mu h) d asks same there none = asks
  holds_shown_as (Pdl h) d asks same there none = asks

  shown_fails_as : (h : AnyFormula) (d : Bool)
      → AsksForAs h d f b
      → d ≢ b
      → IsShownFrom m s f b
      → ¬ (HoldsAs m s d h)
  shown_fails_as (Ltl h) d asks other shown there = other (sym asks.1)
  shown_fails_as (Word h) d asks other shown there = other (sym asks.1)
  shown_fails_as (Ctl h) d asks other shown there =
      ctl_shown_fails m s f linear b d other shown (subst (λ g. HoldsAs m s d (Ctl g)) asks.0 there)
  shown_fails_as (Mu h) d asks other shown there = asks
  shown_fails_as (Pdl h) d asks other shown there = asks

  none_holds_as : (h : AnyFormula) (d : Bool)
      → AsksForAs h d f b
      → d ≢ b
      → ¬ (IsShownFrom m s f b)
      → HoldsAs m s d h
  none_holds_as (Ltl h) d asks other none = absurd (other (sym asks.1))
  none_holds_as (Word h) d asks other none = absurd (other (sym asks.1))
  none_holds_as (Ctl h) d asks other none =
      subst (λ g. HoldsAs m s d (Ctl g)) (sym asks.0) (ctl_none_holds m s f linear b d other none)
  none_holds_as (Mu h) d asks other none = absurd asks
  none_holds_as (Pdl h) d asks other none = absurd asks

  module _ (p : Problem) (asks : AsksFor p f b) where
    pub shown_holds : IsAdmitted (logic_of p.formula) m → p.negated ≡ b → IsShownFrom m s f b → HoldsAt m s p
    shown_holds ok same shown = shown_holds_as p.formula p.negated asks ok same shown

    pub holds_shown : p.negated ≡ b → HoldsAt m s p → ¬ (¬ (IsShownFrom m s f b))
    holds_shown same there = holds_shown_as p.formula p.negated asks same there

    pub shown_fails : p.negated ≢ b → IsShownFrom m s f b → ¬ (HoldsAt m s p)
    shown_fails other shown = shown_fails_as p.formula p.negated asks other shown

    pub none_holds : p.negated ≢ b → ¬ (IsShownFrom m s f b) → HoldsAt m s p
    none_holds other none = none_holds_as p.formula p.negated asks other none
