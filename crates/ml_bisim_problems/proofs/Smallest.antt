-- No structure in which each formula holds where it held before has fewer states than the quotient.
--
-- Of each class one state went somewhere. If there are fewer places than classes, two of these states went to one place:
-- then no formula tells them apart, so they are bisimilar, and their classes are one.
--
--   went             == where a state of a class went
--   one_state        == states that went to one state are bisimilar
--   none_smaller     == the theorem
use Rattle.std.proofs.Common.{ℕ, ◌≡◌, ◌<◌, ◌≤◌, ◌⊎◌, inl, inr, Bool, true, false, List, [], refl, sym, ap, ◌∙◌, subst, ⊎_elim, arith}
use Rattle.std.proofs.lemmas.Bool.{cases_lt, true≢false}
use Rattle.ml_base.specs.Structure.{Structure, IsStructure, is_member}
use Rattle.ml_lists.specs.Pigeons.{Twice}
use Rattle.ml_lists.proofs.Pigeons.{pigeons}
use Rattle.ml_mu.specs.Meaning.{meaning}
use Rattle.ml_bisim.specs.Bisimilar.{Bisimilar}
use Rattle.ml_bisim_problems.specs.Laws.{NoneSmaller}
use Rattle.ml_bisim_problems.specs.Told.{SaysTheSame, ToldApart}
use Rattle.ml_bisim.specs.Quotient.{IsQuotientOf, class_of}
use Rattle.ml_bisim_problems.proofs.Alike.{alike_are_bisimilar}
use Rattle.ml_bisim.proofs.Classes.{some_state}

module _ (m q : Structure) (class : List ℕ) (m_ok : IsStructure m) (quotient : IsQuotientOf m class q)
    (r : Structure) (at : ℕ → ℕ) (same : SaysTheSame m r at) where
  -- a state of the class c, where there is this class
  abbrev state_of : (c : ℕ) → (c < q.states) ⊎ (q.states ≤ c) → ℕ
  state_of c (inl low) = (some_state m q class m_ok quotient c low).0
  state_of c (inr past) = 0

  abbrev went : ℕ → ℕ
  went c = at (state_of c (cases_lt c q.states))

  went_low : (c : ℕ) → c < q.states → went c < r.states
  went_low c low = by_case (cases_lt c q.states)
    where
      by_case : (d : (c < q.states) ⊎ (q.states ≤ c)) → at (state_of c d) < r.states
      by_case (inl is) = same.states (some_state m q class m_ok quotient c is).0 (some_state m q class m_ok quotient c is).1
      by_case (inr past) = absurd (omega arith)

  -- states that went to one state are bisimilar
  one_state : (s t : ℕ) → s < m.states → t < m.states → at s ≡ at t → Bisimilar m s t
  one_state s t s_low t_low e =
      ⊎_elim (λ (is : Bisimilar m s t). is) (λ (told : ToldApart m s t). absurd (none told)) (alike_are_bisimilar m m_ok s t s_low t_low)
    where
      none : ToldApart m s t → ⊥
      none told =
          true≢false
          (sym told.here ∙ same.formulas told.formula told.no_binder s s_low
          ∙ ap (is_member (meaning r [] told.formula)) e
          ∙ sym (same.formulas told.formula told.no_binder t t_low) ∙ told.not_there)

  apart : (c d : ℕ) → c < q.states → d < q.states → went c ≡ went d → c ≡ d
  apart c d c_low d_low = by_case (cases_lt c q.states) (cases_lt d q.states)
    where
      by_case : (a : (c < q.states) ⊎ (q.states ≤ c)) (b : (d < q.states) ⊎ (q.states ≤ d))
          → at (state_of c a) ≡ at (state_of d b) → c ≡ d
      by_case (inr past) b e = absurd (omega arith)
      by_case (inl is) (inr past) e = absurd (omega arith)
      by_case (inl is) (inl too) e =
          let s = some_state m q class m_ok quotient c is in
          let t = some_state m q class m_ok quotient d too in
          sym s.2 ∙ (quotient.classes.bisimilar s.0 t.0 s.1 t.1).1 (one_state s.0 t.0 s.1 t.1 e) ∙ t.2

  pub none_is_smaller : q.states ≤ r.states
  none_is_smaller = ⊎_elim (λ (less : r.states < q.states). absurd (none less)) (λ (le : q.states ≤ r.states). le) (cases_lt r.states q.states)
    where
      none : r.states < q.states → ⊥
      none less = of (pigeons r.states went (λ k low. went_low k (omega arith)))
        where
          of : Twice went r.states → ⊥
          of twice =
              let equal = apart twice.first twice.second (omega (arith, twice.apart, twice.within)) (omega (arith, twice.within))
              twice.same in
              omega (arith, twice.apart, equal)

pub none_smaller : NoneSmaller
none_smaller m q class m_ok quotient r at same = none_is_smaller m q class m_ok quotient r at same
