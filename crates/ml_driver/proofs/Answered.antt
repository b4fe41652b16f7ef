-- A decision of a problem is what is due, once it is written.
--
--   satisfied, refuted, left_open == a problem with what was found for it
--   answered           == a decision with its document answers the question
use Rattle.std.proofs.Common.{◌≡◌, ℕ, List, refl, sym, subst}
use Rattle.ml_base.specs.Structure.{Structure}
use Rattle.ml_front.specs.declared.problem.Problem.{Problem}
use Rattle.ml_kripke.specs.ModelText.{IsWritten}
use Rattle.ml_kripke.specs.Ordered.{IsOrdered}
use Rattle.ml_refutation.specs.Refutation.{Refutation}
use Rattle.ml_refutation.specs.Views.{of_parts}
use Rattle.ml_refute_check.proofs.Accepted.{some_document}
use Rattle.ml_refute_check.specs.Documents.{IsDocumentOf}
use Rattle.ml_refute_check.specs.WrittenDocument.{document_of}
use Rattle.ml_decide.specs.Decision.{IsDecided, IsMetBy, IsRefutedBy}
use Rattle.ml_decide.specs.Limits.{IsClosed, StaysOpen}
use Rattle.ml_decide.specs.declared.cause.Cause.{Cause}
use Rattle.ml_decide.specs.declared.deciding.Decision.{Decision}
use Rattle.ml_decide.specs.declared.deciding.Decision.TheVariants as decision
use Rattle.ml_model_check.specs.WrittenDocument.{satisfiable_document}
use Rattle.ml_driver.specs.Decision.{IsAnswered, IsProblem, LeftOpen, Refuted, Satisfied, if_open, if_refuted, if_satisfied}
use Rattle.ml_decision_text.specs.Documents.{decision_document, IsShown, undecided_document}
use Rattle.ml_driver.specs.declared.question.Question.{Question}
use Rattle.ml_driver.specs.private.Decisions.{status_in}

module _ (q : Question) (text : List ℕ) (p : Problem) (is_problem : IsProblem q text p) (out : List ℕ) where
  pub satisfied : (m : Structure) (start : ℕ)
      → IsClosed q.way q.limit p
      → IsMetBy p m start
      → IsWritten m start
      → IsOrdered m
      → out ≡ satisfiable_document p m start
      → Satisfied q text out
  satisfied m start is_closed met can_be_written is_ordered written =
      record {
        problem = p;
        structure = m;
        start = start;
        is_problem = is_problem;
        is_closed = is_closed;
        is_admitted = met.is_admitted;
        can_be_written = can_be_written;
        is_ordered = is_ordered;
        holds = met.holds;
        is_written = written;
      }

  pub refuted : (r : Refutation) → IsClosed q.way q.limit p → IsRefutedBy p r → out ≡ document_of p r → Refuted q text out
  refuted r is_closed is written =
      record {
        problem = p;
        refutation = r;
        graph = is.is_accepted.graph;
        is_problem = is_problem;
        is_closed = is_closed;
        is_unsatisfiable = is.is_unsatisfiable;
        is_graph = is.is_accepted.is_graph;
        is_refutation = is.is_refutation;
        is_accepted = is.is_accepted.holds;
        is_written = subst (IsDocumentOf p r) (sym written) (some_document p r is.is_refutation);
      }

  pub left_open : (c : Cause) → StaysOpen q.limit p c → out ≡ undecided_document p c → LeftOpen q text out
  left_open c stays written =
      record { problem = p; cause = c; is_problem = is_problem; stays_open = stays; is_written = written }

  pub answered : (d : Decision) → IsDecided q.way q.limit p d → out ≡ decision_document p d → IsShown d
      → IsAnswered q text (status_in q.negated d) out
  answered (decision.Satisfiable m) x written shown =
      if_satisfied refl (satisfied m.structure m.start x.0 x.1 shown.0 shown.1 written)
  answered (decision.Unsatisfiable r) x written shown =
      if_refuted refl (refuted (of_parts r.names r.sequents r.stacks r.entries) x.0 x.1 written)
  answered (decision.Undecided c) x written shown = if_open refl (left_open c x written)
