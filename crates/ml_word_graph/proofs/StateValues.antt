-- The truth values of formulas of LTL at the states of a structure in which each state has exactly one edge by `_`.
--
--   value m ok f s     == the truth value of f on the path from s
--   says_value         == f is true at the places of all paths as it is at their states
--   value_prop, value_next, value_finally, value_globally, value_until, value_weak, value_release == what it is by one step
--   is_least f         == does f hold where something comes about: F and U, while G, W and R fail where something does
--   exit_of f          == what that is
--   comes_about        == it comes about some time
use Rattle.std.proofs.Common.{◌≡◌, ℕ, ◌<◌, ◌≤◌, ◌⊎◌, Bool, true, false, ◌&&◌, ◌||◌, [], ◌∷◌, inl, inr, sym, ap, subst, ◌∙◌, arith}
use Rattle.std.proofs.lemmas.Bool.{and_parts, cases_lt, false≢true, not-true}
use Rattle.ml_lists.specs.Lasso.{Lasso, entry, next_place}
use Rattle.ml_lists.specs.Walk.{walk}
use Rattle.ml_base.specs.Structure.{Structure, lists}
use Rattle.ml_text.specs.declared.token.Operator.TheVariants as operator
use Rattle.ml_ctl.specs.Formula.{Formula, Const, Prop, Not, Binary, Temporal, Paired, Quantified}
use Rattle.ml_ctl.specs.Sorts.{is_linear}
use Rattle.ml_ctl.specs.declared.term.Tense.TheVariants as tense
use Rattle.ml_ctl.specs.declared.term.Pairing.TheVariants as pairing
use Rattle.ml_ctl.specs.Laws.{IsDecidedAlong, PassSame, ReadsAhead, ReadsStepByStep}
use Rattle.ml_ctl.specs.Meaning.{TruthAt}
use Rattle.ml_ctl.specs.Paths.{IsPath, IsPathFrom}
use Rattle.ml_ctl.specs.Unrolled.{IsPlace, after}
use Rattle.ml_ctl.proofs.SamePaths.{follows_the_path}
use Rattle.ml_ctl.proofs.StepByStep.{read_ahead, read_step_by_step}
use Rattle.ml_ctl.proofs.Negations.{negations_of_globally, negations_of_release, negations_of_weak}
use Rattle.ml_word_graph.specs.Problem.{IsAdmitted}
use Rattle.ml_word_graph.proofs.Values.{Says, truth, says_truth, both_say, either_says, equal_values, decided_value}
use Rattle.ml_word_graph.proofs.Words.{next_state, path_goes, a_word}

abbrev pub is_least : Formula → Bool
is_least (Temporal tense.Finally f) = true
is_least (Paired pairing.Until f g) = true
is_least f = false

abbrev pub exit_of : Formula → Formula
exit_of (Temporal t f) = f
exit_of (Paired pairing.Weak f g) = f
exit_of (Paired p f g) = g
exit_of f = f

-- is it F, G, U, R or W?
abbrev pub is_cycle : Formula → Bool
is_cycle (Temporal tense.Next f) = false
is_cycle (Temporal t f) = true
is_cycle (Paired p f g) = true
is_cycle f = false

module _ (m : Structure) (ok : IsAdmitted m) where
  abbrev pub next : ℕ → ℕ
  next s = next_state m ok s

  word_by : (s : ℕ) → (s < m.states) ⊎ (m.states ≤ s) → Lasso
  word_by s (inl low) = (a_word m ok s low).0
  word_by s (inr past) = record { entries = 0 ∷ []; start = 0 }

  word_by_is : (s : ℕ) (c : (s < m.states) ⊎ (m.states ≤ s)) → s < m.states → IsPathFrom m s (word_by s c)
  unfolding word_by
  word_by_is s (inl low) is = (a_word m ok s low).1.is_path
  word_by_is s (inr past) is = absurd (omega arith)

  pub word_at : ℕ → Lasso
  word_at s = word_by s (cases_lt s m.states)

  pub word_is : (s : ℕ) → s < m.states → IsPathFrom m s (word_at s)
  unfolding word_at
  word_is s low = word_by_is s (cases_lt s m.states) low

  abbrev pub value : Formula → ℕ → Bool
  value f s = truth m (word_at s) f 0

  first_place : (s : ℕ) → s < m.states → IsPlace (word_at s) 0
  first_place s low = let starts = (word_is s low).is_path.starts in (starts, omega (arith, starts))

  first_low : (s : ℕ) → s < m.states → entry (word_at s) 0 < m.states
  first_low s low = subst (λ t. t < m.states) (sym (word_is s low).starts_at) low

  -- a path passes the states that the path from its state passes
  module _ (l : Lasso) (path : IsPath m l) (i : ℕ) (place : IsPlace l i) (low : entry l i < m.states) where
    abbrev here : ℕ
    here = entry l i

    passes : PassSame l i (word_at here) 0
    passes k =
        (path_goes m ok l path i place low k).is
        ∙ sym ((path_goes m ok (word_at here) (word_is here low).is_path 0 (first_place here low) (first_low here low) k).is
        ∙ ap (λ t. walk (next_state m ok) t k) (word_is here low).starts_at)

    pub says_value : (f : Formula) → is_linear f ≡ true → Says (TruthAt m l f i) (value f (entry l i))
    says_value f linear =
        let says = says_truth m (word_at here) f linear 0 in (
          λ t. says.0 (follows_the_path m f l (word_at here) i 0 place (first_place here low) passes t),
          λ e. follows_the_path m f (word_at here) l 0 i (first_place here low) place (λ k. sym (passes k)) (says.1 e),
        )

  -- ---- one step

  module _ (s : ℕ) (low : s < m.states) where
    abbrev l : Lasso
    l = word_at s

    path : IsPath m l
    path = (word_is s low).is_path

    start : IsPlace l 0
    start = first_place s low

    -- after k steps
    says_after : (k : ℕ) (f : Formula) → is_linear f ≡ true → Says (TruthAt m l f (after l 0 k)) (value f (walk next s k))
    says_after k f linear =
        let goes = path_goes m ok l path 0 start (first_low s low) k in
        let is : entry l (after l 0 k) ≡ walk next s k =
        goes.is ∙ ap (λ t. walk next t k) (word_is s low).starts_at in
        subst (λ t. Says (TruthAt m l f (after l 0 k)) (value f t)) is (says_value l path (after l 0 k) goes.place goes.low f linear)

    says_here : (f : Formula) → is_linear f ≡ true → Says (TruthAt m l f 0) (value f s)
    says_here f linear = says_truth m l f linear 0

    pub value_prop : (p : _) → value (Prop p) s ≡ lists m s p
    value_prop p = ap (λ t. lists m t p) (word_is s low).starts_at

    pub value_next : (f : Formula) → is_linear f ≡ true → value (Temporal tense.Next f) s ≡ value f (next s)
    value_next f linear =
        equal_values (value (Temporal tense.Next f) s) (value f (next s)) (λ t. t, λ t. t)
        (says_truth m l f linear (next_place l 0)) (says_after 1 f linear)

    abbrev Reads : Formula → Formula → Type 0
    Reads f g = ReadsStepByStep m l f g 0

    steps : (f g : Formula) → Reads f g
    steps f g = read_step_by_step m l f g 0 start

    pub value_finally : (f : Formula) → is_linear f ≡ true
        → value (Temporal tense.Finally f) s ≡ (value f s || value (Temporal tense.Finally f) (next s))
    value_finally f linear =
        let w : Formula = Temporal tense.Finally f in
        equal_values (value w s) (value f s || value w (next s)) (steps f f).finally (says_here w linear)
        (either_says (value f s) (value w (next s)) (says_here f linear) (says_after 1 w linear))

    pub value_globally : (f : Formula) → is_linear f ≡ true
        → value (Temporal tense.Globally f) s ≡ (value f s && value (Temporal tense.Globally f) (next s))
    value_globally f linear =
        let w : Formula = Temporal tense.Globally f in
        equal_values (value w s) (value f s && value w (next s)) (steps f f).globally (says_here w linear)
        (both_say (value f s) (value w (next s)) (says_here f linear) (says_after 1 w linear))

    module _ (f g : Formula) (linear : (is_linear f && is_linear g) ≡ true) where
      f_linear : is_linear f ≡ true
      f_linear = (and_parts (is_linear f) (is_linear g) linear).0

      g_linear : is_linear g ≡ true
      g_linear = (and_parts (is_linear f) (is_linear g) linear).1

      pub value_until : value (Paired pairing.Until f g) s ≡ (value g s || (value f s && value (Paired pairing.Until f g) (next s)))
      value_until =
          let w : Formula = Paired pairing.Until f g in
          equal_values (value w s) (value g s || (value f s && value w (next s))) (steps f g).until (says_here w linear)
          (either_says (value g s) (value f s && value w (next s)) (says_here g g_linear)
          (both_say (value f s) (value w (next s)) (says_here f f_linear) (says_after 1 w linear)))

      pub value_weak : value (Paired pairing.Weak f g) s ≡ (value g s || (value f s && value (Paired pairing.Weak f g) (next s)))
      value_weak =
          let w : Formula = Paired pairing.Weak f g in
          equal_values (value w s) (value g s || (value f s && value w (next s))) (steps f g).weak (says_here w linear)
          (either_says (value g s) (value f s && value w (next s)) (says_here g g_linear)
          (both_say (value f s) (value w (next s)) (says_here f f_linear) (says_after 1 w linear)))

      pub value_release : value (Paired pairing.Release f g) s ≡ (value g s && (value f s || value (Paired pairing.Release f g) (next s)))
      value_release =
          let w : Formula = Paired pairing.Release f g in
          equal_values (value w s) (value g s && (value f s || value w (next s))) (steps f g).release (says_here w linear)
          (both_say (value g s) (value f s || value w (next s)) (says_here g g_linear)
          (either_says (value f s) (value w (next s)) (says_here f f_linear) (says_after 1 w linear)))

    -- ---- what comes about

    decided : (f : Formula) → is_linear f ≡ true → IsDecidedAlong m l f
    decided f linear i place = decided_value (truth m l f i) (says_truth m l f linear i)

    ahead : (f g : Formula) → ReadsAhead m l f g 0
    ahead f g = read_ahead m l f g 0 start

    -- a formula whose value is false isn't true
    fails : (f : Formula) → is_linear f ≡ true → value f s ≡ false → TruthAt m l f 0 → ⊥
    fails f linear is t = false≢true (sym is ∙ (says_here f linear).0 t)

    false_after : (k : ℕ) (f : Formula) → is_linear f ≡ true → TruthAt m l (Not f) (after l 0 k) → value f (walk next s k) ≡ false
    false_after k f linear t = not-true (value f (walk next s k)) ((says_after k (Not f) linear).0 t)

    pub comes_about : (f : Formula) → is_linear f ≡ true → is_cycle f ≡ true → value f s ≡ is_least f
        → (k : ℕ) × (value (exit_of f) (walk next s k) ≡ is_least f)
    comes_about (Const b) linear cycle is = absurd (false≢true cycle)
    comes_about (Prop p) linear cycle is = absurd (false≢true cycle)
    comes_about (Not f) linear cycle is = absurd (false≢true cycle)
    comes_about (Binary op f g) linear cycle is = absurd (false≢true cycle)
    comes_about (Quantified q f) linear cycle is = absurd (false≢true cycle)
    comes_about (Temporal tense.Next f) linear cycle is = absurd (false≢true cycle)
    comes_about (Temporal tense.Finally f) linear cycle is =
        let some = (ahead f f).finally.0 ((says_here (Temporal tense.Finally f) linear).1 is) in
        (some.0, (says_after some.0 f linear).0 some.1)
    comes_about (Temporal tense.Globally f) linear cycle is =
        let dual = (negations_of_globally m l f (decided f linear) 0 start).0 (fails (Temporal tense.Globally f) linear is) in
        let some = (ahead (Not f) (Not f)).finally.0 dual in
        (some.0, false_after some.0 f linear some.1)
    comes_about (Paired pairing.Until f g) linear cycle is =
        let some = (ahead f g).until.0 ((says_here (Paired pairing.Until f g) linear).1 is) in
        (some.0, (says_after some.0 g (and_parts (is_linear f) (is_linear g) linear).1).0 some.1)
    comes_about (Paired pairing.Release f g) linear cycle is =
        let parts = and_parts (is_linear f) (is_linear g) linear in
        let dual = (negations_of_release m l f g (decided g parts.1) 0 start).0 (fails (Paired pairing.Release f g) linear is) in
        let some = (ahead (Not f) (Not g)).until.0 dual in
        (some.0, false_after some.0 g parts.1 some.1)
    comes_about (Paired pairing.Weak f g) linear cycle is =
        let parts = and_parts (is_linear f) (is_linear g) linear in
        let dual = (negations_of_weak m l f g (decided f parts.0) (decided g parts.1) 0 start).0 (fails (Paired pairing.Weak f g) linear is) in
        let some = (ahead (Not g) (Binary operator.And (Not f) (Not g))).until.0 dual in
        (some.0, false_after some.0 f parts.0 some.1.0)
