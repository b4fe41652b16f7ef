-- What a problem is decided to be.
--
-- A decision gives what shows that it is right. That a structure has a state at which the problem holds is said by the
-- meaning of its formula; that there is no such structure, of whatever size, is said beside the refutation, which whoever
-- doubts it can check.
--
--   IsMetBy p m s      == m is a structure of which the logic of p speaks, p holds at its state s, and each state is reached
--                         from there
--   IsRefutedBy p r    == r is a refutation, it is accepted for a graph of p, and p is unsatisfiable: it holds at no state of
--                         any structure of which its logic speaks
--   IsDecided w n p d  == p is decided to be d, in the way w, where its game may have n positions: where p may be answered,
--                         that its structure meets it, or that its refutation refutes it; or else that it stays open, for
--                         the cause that d tells
--   answer_by d        == satisfiable, unsatisfiable or undecided
use Rattle.std.specs.Prelude.{ℕ, ◌<◌}
use Rattle.ml_base.specs.Structure.{Structure}
use Rattle.ml_extract.specs.Extraction.{IsReachedFrom}
use Rattle.ml_front.specs.Graphs.{OfGraph}
use Rattle.ml_front.specs.Logics.{logic_of}
use Rattle.ml_front.specs.Problems.{HoldsAt, IsAdmitted, IsSatisfiable}
use Rattle.ml_front.specs.declared.answer.Answer.{Answer}
use Rattle.ml_front.specs.declared.answer.Answer.TheVariants as answer
use Rattle.ml_front.specs.declared.problem.Problem.{Problem}
use Rattle.ml_refutation.specs.Acceptance.{IsAccepted}
use Rattle.ml_refutation.specs.Refutation.{Refutation, IsRefutation}
use Rattle.ml_refutation.specs.Views.{of_parts}
use Rattle.ml_decide.specs.Limits.{IsClosed, StaysOpen}
use Rattle.ml_decide.specs.declared.deciding.Decision.{Decision}
use Rattle.ml_decide.specs.declared.deciding.Decision.TheVariants.{Satisfiable, Unsatisfiable, Undecided}
use Rattle.ml_decide.specs.declared.way.Way.{Way}

pub record IsMetBy (p : Problem) (m : Structure) (start : ℕ) : Type 0 where
  pub is_admitted : IsAdmitted (logic_of p.formula) m
  pub is_state : start < m.states
  pub holds : HoldsAt m start p
  pub are_reached : (s : ℕ) → s < m.states → IsReachedFrom m start s

pub record IsRefutedBy (p : Problem) (r : Refutation) : Type 0 where
  pub is_refutation : IsRefutation r
  pub is_accepted : OfGraph p (λ g. IsAccepted g r)
  pub is_unsatisfiable : ¬ (IsSatisfiable p)

abbrev pub IsDecided : Way → ℕ → Problem → Decision → Type 0
IsDecided w n p (Satisfiable m) = IsClosed w n p × IsMetBy p m.structure m.start
IsDecided w n p (Unsatisfiable r) = IsClosed w n p × IsRefutedBy p (of_parts r.names r.sequents r.stacks r.entries)
IsDecided w n p (Undecided c) = StaysOpen n p c

abbrev pub answer_by : Decision → Answer
answer_by (Satisfiable m) = answer.Satisfiable
answer_by (Unsatisfiable r) = answer.Unsatisfiable
answer_by (Undecided c) = answer.Undecided
