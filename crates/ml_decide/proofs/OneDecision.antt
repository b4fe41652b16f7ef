-- Decisions of a problem are exact, and agree.
--
--   decisions_are_exact, one_decision, decisions_agree, found_as_decided == the laws
use Rattle.std.proofs.Common.{ℕ, refl, inl, inr}
use Rattle.ml_front.specs.Problems.{IsSatisfiable}
use Rattle.ml_front.specs.declared.problem.Problem.{Problem}
use Rattle.ml_decide.specs.Decision.{IsMetBy}
use Rattle.ml_decide.specs.Laws.{DecisionsAgree, DecisionsAreExact, FoundAsDecided, OneDecision}
use Rattle.ml_decide.specs.Laws.{open_at, satisfiable_at, unsatisfiable_at}
use Rattle.ml_decide.specs.declared.cause.Cause.TheVariants.{Closure}
use Rattle.ml_decide.specs.declared.deciding.Decision.TheVariants.{Satisfiable, Unsatisfiable, Undecided}
use Rattle.ml_base.specs.Structure.{Structure}

pub met_is_satisfiable : (p : Problem) (m : Structure) (start : ℕ) → IsMetBy p m start → IsSatisfiable p
met_is_satisfiable p m start is = (m, is.is_admitted, (start, is.is_state, is.holds))

pub decisions_are_exact : DecisionsAreExact
decisions_are_exact w n p (Satisfiable m) is =
    satisfiable_at is.0 (met_is_satisfiable p m.structure m.start is.1) refl
decisions_are_exact w n p (Unsatisfiable r) is = unsatisfiable_at is.0 is.1.is_unsatisfiable refl
decisions_are_exact w n p (Undecided c) is = open_at c is refl

pub one_decision : OneDecision
one_decision n p (Satisfiable m) (Satisfiable l) is also = refl
one_decision n p (Satisfiable m) (Unsatisfiable r) is also =
    absurd (also.1.is_unsatisfiable (met_is_satisfiable p m.structure m.start is.1))
one_decision n p (Satisfiable m) (Undecided c) is also = absurd (is.0 c also)
one_decision n p (Unsatisfiable r) (Satisfiable m) is also =
    absurd (is.1.is_unsatisfiable (met_is_satisfiable p m.structure m.start also.1))
one_decision n p (Unsatisfiable r) (Unsatisfiable t) is also = refl
one_decision n p (Unsatisfiable r) (Undecided c) is also = absurd (is.0 c also)
one_decision n p (Undecided c) (Satisfiable m) is also = absurd (also.0 c is)
one_decision n p (Undecided c) (Unsatisfiable r) is also = absurd (also.0 c is)
one_decision n p (Undecided c) (Undecided e) is also = refl

pub decisions_agree : DecisionsAgree
decisions_agree v w n k p (Satisfiable m) (Satisfiable l) is also = inl refl
decisions_agree v w n k p (Satisfiable m) (Unsatisfiable r) is also =
    absurd (also.1.is_unsatisfiable (met_is_satisfiable p m.structure m.start is.1))
decisions_agree v w n k p (Unsatisfiable r) (Satisfiable m) is also =
    absurd (is.1.is_unsatisfiable (met_is_satisfiable p m.structure m.start also.1))
decisions_agree v w n k p (Unsatisfiable r) (Unsatisfiable t) is also = inl refl
decisions_agree v w n k p (Undecided c) e is also = inr (inl refl)
decisions_agree v w n k p d (Undecided c) is also = inr (inr refl)

pub found_as_decided : FoundAsDecided
found_as_decided n p (Satisfiable m) is = (is.0 Closure, is.1)
found_as_decided n p (Unsatisfiable r) is = (is.0 Closure, is.1)
found_as_decided n p (Undecided c) is = is
