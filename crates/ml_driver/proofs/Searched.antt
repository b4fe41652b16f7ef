-- What a search answers, beside what the whole game does: both ask the same, and differ in the way alone.
--
--   may_be_found      == what answers it by the whole game answers it by a search
--   is_decided        == what answers it by a search, and is neither yes nor no, answers it by the whole game
--   finds_as_decided, proves_as_decided == the laws
use Rattle.std.proofs.Common.{◌≡◌, ◌≢◌, ℕ, ◌⊎◌, Bool, true, false, List, if◌then◌else◌, refl, inl, inr}
use Rattle.ml_front.specs.declared.logic.Logic.{Logic}
use Rattle.ml_front.specs.declared.problem.Problem.{Problem}
use Rattle.ml_driver.specs.Decision.{IsAnswered, IsProblem, LeftOpen, Refuted, RefusedText, Satisfied, if_open, if_refused, if_refuted, if_satisfied}
use Rattle.ml_decide.specs.declared.cause.Cause.TheVariants.{Closure}
use Rattle.ml_driver.specs.declared.command.Command.TheVariants.{Decide, Valid, Find, Prove}
use Rattle.ml_decide.specs.declared.way.Way.{Way}
use Rattle.ml_decide.specs.declared.way.Way.TheVariants.{WholeGame, Search}
use Rattle.ml_driver.specs.declared.status.Status.{Status}
use Rattle.ml_driver.specs.declared.status.Status.TheVariants.{Yes, No}
use Rattle.ml_driver.specs.Laws.{FindsAsDecided, ProvesAsDecided}
use Rattle.ml_driver.specs.Run.{asked}
use Rattle.ml_driver.proofs.InputLimits.{with_answer}

module _ (l : Logic) (b : Bool) (n : ℕ) (text : List ℕ) where
  problem_in : (v w : Way) (p : Problem) → IsProblem (asked b v l n) text p → IsProblem (asked b w l n) text p
  problem_in v w p x =
      record { of_logic = x.of_logic; in_sense = x.in_sense; is_parsed = x.is_parsed }

  satisfied_too : (out : List ℕ) → Satisfied (asked b WholeGame l n) text out → Satisfied (asked b Search l n) text out
  satisfied_too out x =
      record {
        problem = x.problem;
        structure = x.structure;
        start = x.start;
        is_problem = problem_in WholeGame Search x.problem x.is_problem;
        is_closed = x.is_closed Closure;
        is_admitted = x.is_admitted;
        can_be_written = x.can_be_written;
        is_ordered = x.is_ordered;
        holds = x.holds;
        is_written = x.is_written;
      }

  refuted_too : (out : List ℕ) → Refuted (asked b WholeGame l n) text out → Refuted (asked b Search l n) text out
  refuted_too out x =
      record {
        problem = x.problem;
        refutation = x.refutation;
        graph = x.graph;
        is_problem = problem_in WholeGame Search x.problem x.is_problem;
        is_closed = x.is_closed Closure;
        is_unsatisfiable = x.is_unsatisfiable;
        is_graph = x.is_graph;
        is_refutation = x.is_refutation;
        is_accepted = x.is_accepted;
        is_written = x.is_written;
      }

  left_open_in : (v w : Way) (out : List ℕ) → LeftOpen (asked b v l n) text out → LeftOpen (asked b w l n) text out
  left_open_in v w out x =
      record {
        problem = x.problem;
        cause = x.cause;
        is_problem = problem_in v w x.problem x.is_problem;
        stays_open = x.stays_open;
        is_written = x.is_written;
      }

  refused_in : (v w : Way) (out : List ℕ) → RefusedText (asked b v l n) text out → RefusedText (asked b w l n) text out
  refused_in v w out x = record { refusal = x.refusal; is_refused = x.is_refused; is_written = x.is_written }

  may_be_found : (s : Status) (out : List ℕ) → IsAnswered (asked b WholeGame l n) text s out
      → IsAnswered (asked b Search l n) text s out
  may_be_found s out (if_satisfied is x) = if_satisfied is (satisfied_too out x)
  may_be_found s out (if_refuted is x) = if_refuted is (refuted_too out x)
  may_be_found s out (if_open is x) = if_open is (left_open_in WholeGame Search out x)
  may_be_found s out (if_refused is x) = if_refused is (refused_in WholeGame Search out x)

  yes_or_no : (c : Bool) (s : Status)
      → (s ≡ (if c then No else Yes)) ⊎ (s ≡ (if c then Yes else No))
      → s ≢ Yes
      → s ≢ No
      → ⊥
  yes_or_no true s (inl is) other nor = nor is
  yes_or_no true s (inr is) other nor = other is
  yes_or_no false s (inl is) other nor = other is
  yes_or_no false s (inr is) other nor = nor is

  is_decided : (s : Status) (out : List ℕ)
      → s ≢ Yes
      → s ≢ No
      → IsAnswered (asked b Search l n) text s out → IsAnswered (asked b WholeGame l n) text s out
  is_decided s out other nor (if_satisfied is x) = absurd (yes_or_no b s (inl is) other nor)
  is_decided s out other nor (if_refuted is x) = absurd (yes_or_no b s (inr is) other nor)
  is_decided s out other nor (if_open is x) = if_open is (left_open_in Search WholeGame out x)
  is_decided s out other nor (if_refused is x) = if_refused is (refused_in Search WholeGame out x)

-- both take as long an input
pub finds_as_decided : FindsAsDecided
finds_as_decided l n text s out = (
  λ due. with_answer (Decide l n) (Find l n) text s out refl (may_be_found l false n text s out) due,
  λ other nor due. with_answer (Find l n) (Decide l n) text s out refl (is_decided l false n text s out other nor) due,
)

pub proves_as_decided : ProvesAsDecided
proves_as_decided l n text s out = (
  λ due. with_answer (Valid l n) (Prove l n) text s out refl (may_be_found l true n text s out) due,
  λ other nor due. with_answer (Prove l n) (Valid l n) text s out refl (is_decided l true n text s out other nor) due,
)
