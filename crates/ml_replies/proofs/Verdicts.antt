-- What comes of checking a structure, by each formula and by the joined one.
--
--   all_at        == what holds of all elements of a list holds of each that it contains
--   all_if_small  == where all problems hold, all small ones do
--   one_more, one_fails == of problems that were looked at one after the other
--   as_joined     == of a joined formula that is held
--   by_each_met, by_each_failed == each formula holds, or some one fails
--   from_joined   == where that tells nothing, the joined formula tells it
--   shown_or_fails == no structure both meets and fails
use Rattle.std.proofs.Common.{◌≢◌, ℕ, zero, suc, ◌<◌, Bool, List, [], ◌∷◌, ◌++◌, get_or, length, subst, arith}
use Rattle.std.specs.List.{AllByRecursion, Contains}
use Rattle.ml_lists.proofs.AllOf.{all_last, all_parts}
use Rattle.ml_base.specs.Structure.{Structure}
use Rattle.ml_front.specs.Problems.{HoldsAt, IsAdmitted}
use Rattle.ml_front.specs.declared.logic.Logic.{Logic}
use Rattle.ml_front.specs.declared.logic.Logic.TheVariants.{Ltl}
use Rattle.ml_front.specs.declared.problem.Problem.{Problem}
use Rattle.ml_spec.specs.Questions.{IsQuestion}
use Rattle.ml_spec.specs.Specification.{IsSpecified}
use Rattle.ml_spec.specs.declared.question.Question.{Question}
use Rattle.ml_spec.specs.declared.specification.Item.{Item}
use Rattle.ml_replies.specs.Meeting.{problem_of, problems_of, by_all, by_each, CanBeChecked, IsHeld, IsSmall}
use Rattle.ml_replies.specs.Replies.{by_joined, by_one, not_admitted, FailsByCheck, IsShown, MeetsAs}
use Rattle.ml_replies.specs.declared.outcome.Meets.{Meets}
use Rattle.ml_replies.specs.declared.outcome.Meets.TheVariants.{Yes, No, Unknown}
use Rattle.ml_replies.specs.private.Checks.{EachAs, HoldsIfSmall, JoinedAs, OneAs, SoFarAs}
use Rattle.ml_replies.proofs.Checks.{checks_are_enough}

at_place : {X : Type 0} (P : X → Type 0) (xs : List X) (k : ℕ) (d : X) → AllByRecursion P xs → k < length xs → P (get_or xs k d)
at_place P [] k d all below = absurd (omega (arith, below))
at_place P (x ∷ xs) zero d all below = all.0
at_place P (x ∷ xs) (suc k) d all below = at_place P xs k d all.1 (omega (arith, below))

pub all_at : {X : Type 0} (P : X → Type 0) (xs : List X) (x : X) → AllByRecursion P xs → Contains xs x → P x
all_at P xs x all (k, below, is) = subst P is (at_place P xs k x all below)

-- ---- one after the other

module _ (m : Structure) (s : ℕ) where
  pub all_if_small : (ps : List Problem) → AllByRecursion (HoldsAt m s) ps → AllByRecursion (HoldsIfSmall m s) ps
  all_if_small [] all = tt
  all_if_small (p ∷ ps) all = ((λ small. all.0), all_if_small ps all.1)

  pub yes_more : (ps : List Problem) (p : Problem) (r : Meets) → SoFarAs ps m s r → OneAs p m s Yes → SoFarAs (ps ++ p ∷ []) m s r
  yes_more ps p Yes so one = (all_last IsSmall ps p so.0 one.0, all_last (HoldsAt m s) ps p so.1 one.1)
  yes_more ps p No so one = absurd so
  yes_more ps p Unknown so one = (
    λ all. so.0 (all_parts IsSmall ps (p ∷ []) all).0,
    all_last (HoldsIfSmall m s) ps p so.1 (λ small. one.1),
  )

  pub unknown_more : (ps : List Problem) (p : Problem) (r : Meets)
      → SoFarAs ps m s r
      → OneAs p m s Unknown
      → SoFarAs (ps ++ p ∷ []) m s Unknown
  unknown_more ps p Yes so one = (
    λ all. (all_parts IsSmall ps (p ∷ []) all).1.0 one,
    all_last (HoldsIfSmall m s) ps p (all_if_small ps so.1) (λ small. absurd (small one)),
  )
  unknown_more ps p No so one = absurd so
  unknown_more ps p Unknown so one = (
    λ all. so.0 (all_parts IsSmall ps (p ∷ []) all).0,
    all_last (HoldsIfSmall m s) ps p so.1 (λ small. absurd (small one)),
  )

  pub all_so : (ps : List Problem) (r : Meets) → SoFarAs ps m s r → EachAs ps m s r
  all_so ps Yes so = so
  all_so ps No so = absurd so
  all_so ps Unknown so = so

-- ---- of a joined formula

pub as_joined : (m : Structure) (s : ℕ) (p : Problem) (r : Meets) → IsHeld p → OneAs p m s r → JoinedAs p m s r
as_joined m s p Yes held x = (held, x.0, x.1)
as_joined m s p No held x = (held, x.0, x.1)
as_joined m s p Unknown held large = λ y. y.1 large

-- ---- of requirements and a question

module _ (l : Logic) (xs : List Item) (S : ℕ → Bool) (q : Question) (m : Structure) (s : ℕ) (specified : IsSpecified l xs)
    (is : IsQuestion xs q) where
  module _ (ok : IsAdmitted l m) (below : s < m.states) where
    pub by_each_met : l ≢ Ltl → EachAs (problems_of xs S q) m s Yes → MeetsAs l xs S q m s Yes
    by_each_met other each = (
      by_each other each.0,
      record {
        is_admitted = ok;
        is_state = below;
        holds = (checks_are_enough l xs S q m s specified is other ok below).1 each.1;
      },
    )

    pub by_each_failed : l ≢ Ltl → EachAs (problems_of xs S q) m s No → MeetsAs l xs S q m s No
    by_each_failed other (p, among, small, fails) = by_one other p among small fails

    pub from_joined : (l ≢ Ltl → EachAs (problems_of xs S q) m s Unknown)
        → (r : Meets)
        → JoinedAs (problem_of l xs S q) m s r
        → MeetsAs l xs S q m s r
    from_joined each Yes (held, small, holds) =
        (by_all held small, record { is_admitted = ok; is_state = below; holds = holds })
    from_joined each No (held, small, fails) = by_joined held small fails
    from_joined each Unknown none = ((λ x. never_shown x.0), never_fails)
      where
        never_shown : ¬ (CanBeChecked l xs S q)
        never_shown (by_each other small) = (each other).0 small
        never_shown (by_all held small) = none (held, small)

        never_fails : ¬ (FailsByCheck l xs S q m s)
        never_fails (not_admitted out) = out ok
        never_fails (by_one other p among small fails) =
            fails (all_at (HoldsIfSmall m s) (problems_of xs S q) p (each other).1 among small)
        never_fails (by_joined held small fails) = none (held, small)

  pub shown_or_fails : IsShown l xs S q m s → FailsByCheck l xs S q m s → ⊥
  shown_or_fails x (not_admitted out) = out x.1.is_admitted
  shown_or_fails x (by_one other p among small fails) =
      fails (all_at (HoldsAt m s) (problems_of xs S q) p
      ((checks_are_enough l xs S q m s specified is other x.1.is_admitted x.1.is_state).0 x.1.holds) among)
  shown_or_fails x (by_joined held small fails) = fails x.1.holds
