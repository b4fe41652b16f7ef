-- On words negation is complement, and it is decided where a problem holds.
--
--   here_says  == the value of the formula at the state tells whether a word from there satisfies it, whichever word
--   holds_or_fails == a problem holds at a state, or it doesn't
--   complement == so a problem holds where the negated one doesn't, since from each state goes a word
use Rattle.std.proofs.Common.{◌≡◌, ℕ, ◌<◌, Bool, true, false, inl, inr, subst, sym, ◌∙◌, ⊎_elim, arith}
use Rattle.std.proofs.lemmas.Bool.{cases_Bool, false≢true}
use Rattle.ml_lists.specs.Lasso.{Lasso}
use Rattle.ml_lists.proofs.Decided.{Decided}
use Rattle.ml_base.specs.Structure.{Structure}
use Rattle.ml_ctl.specs.Formula.{Formula}
use Rattle.ml_ctl.specs.Sorts.{is_linear}
use Rattle.ml_ctl.specs.Meaning.{Satisfies}
use Rattle.ml_word_graph.specs.Laws.{NegationIsComplement}
use Rattle.ml_word_graph.specs.Problem.{HoldsAt, IsAdmitted, IsWordFrom}
use Rattle.ml_word_graph.proofs.Values.{Says}
use Rattle.ml_word_graph.proofs.Words.{a_word}
use Rattle.ml_word_graph.proofs.StateValues.{says_value, value}

pub here_says : (f : Formula)
    → is_linear f ≡ true
    → (m : Structure) (ok : IsAdmitted m) (s : ℕ)
    → s < m.states
    → (l : Lasso)
    → IsWordFrom m s l
    → Says (Satisfies m l f) (value m ok f s)
here_says f linear m ok s low l w =
    let path = w.is_path.is_path in
    let starts = w.is_path.starts_at in
    subst (λ t. Says (Satisfies m l f) (value m ok f t)) starts
    (says_value m ok l path 0 (path.starts, omega (arith, path.starts)) (subst (λ t. t < m.states) (sym starts) low) f linear)

pub holds_or_fails : (f : Formula) (negated : Bool)
    → is_linear f ≡ true
    → (m : Structure)
    → IsAdmitted m
    → (s : ℕ)
    → s < m.states
    → Decided (HoldsAt m s f negated)
holds_or_fails f negated linear m ok s low =
    ⊎_elim (λ (e : value m ok f s ≡ true). where_true negated e) (λ (e : value m ok f s ≡ false). where_false negated e)
    (cases_Bool (value m ok f s))
  where
    says : (l : Lasso) → IsWordFrom m s l → Says (Satisfies m l f) (value m ok f s)
    says l w = here_says f linear m ok s low l w

    where_true : (b : Bool) → value m ok f s ≡ true → Decided (HoldsAt m s f b)
    where_true false e = let w = a_word m ok s low in inl (w.0, w.1, (says w.0 w.1).1 e)
    where_true true e = inr (λ h. h.2 ((says h.0 h.1).1 e))

    where_false : (b : Bool) → value m ok f s ≡ false → Decided (HoldsAt m s f b)
    where_false false e = inr (λ h. false≢true (sym e ∙ (says h.0 h.1).0 h.2))
    where_false true e =
        let w = a_word m ok s low in inl (w.0, w.1, λ holds. false≢true (sym e ∙ (says w.0 w.1).0 holds))

pub complement : NegationIsComplement
complement f linear m ok s low =
    let says = here_says f linear m ok s low in
    let w = a_word m ok s low in (
      λ p q. p.2 ((says p.0 p.1).1 ((says q.0 q.1).0 q.2)),
      λ none. (w.0, w.1, λ holds. none (w.0, w.1, holds)),
    )
