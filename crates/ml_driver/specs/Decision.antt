-- What a problem of any logic is decided to be.
--
-- A question is a logic, a sense, a limit on the positions of the decision game, and a way to seek the answer. It is asked
-- of a text: the problem is the formula that the text stands for, in this sense. Which problems stay open, and which may be
-- answered in this way, is said by `StaysOpen` and `IsClosed` of `ml_decide`.
--
--   IsProblem q text p    == p is the problem of the text
--   Satisfied q text out  == out is a document about the problem of the text, with a structure and a state at which it
--                            holds
--   Refuted q text out    == out is a document about it, with a refutation that is accepted for it; it holds nowhere
--   LeftOpen q text out   == out is a document about it, with the cause for which it stays undecided
--   RefusedText q text out == out says why the parser refuses the text
--   IsAnswered q text s out == this status and this output answer the question of the text; where it is about the negation,
--                            a refutation says yes
use Rattle.std.specs.Prelude.{ℕ, ◌≡◌, List, Some, if◌then◌else◌}
use Rattle.ml_base.specs.Structure.{Structure}
use Rattle.ml_base.specs.declared.parse_refusal.ParseRefusal.{ParseRefusal}
use Rattle.ml_kripke.specs.ModelText.{IsWritten}
use Rattle.ml_kripke.specs.Ordered.{IsOrdered}
use Rattle.ml_front.specs.Graphs.{IsGraphOf}
use Rattle.ml_front.specs.Logics.{logic_of, IsParsedAs, IsRefusedBy}
use Rattle.ml_front.specs.Problems.{HoldsAt, IsAdmitted, IsSatisfiable}
use Rattle.ml_front.specs.declared.problem.Problem.{Problem}
use Rattle.ml_graph.specs.Graph.{Graph}
use Rattle.ml_refutation.specs.Acceptance.{IsAccepted}
use Rattle.ml_refutation.specs.Refutation.{Refutation, IsRefutation}
use Rattle.ml_refute_check.specs.Documents.{IsDocumentOf}
use Rattle.ml_decide.specs.Limits.{IsClosed, StaysOpen}
use Rattle.ml_decide.specs.declared.cause.Cause.{Cause}
use Rattle.ml_model_check.specs.WrittenDocument.{satisfiable_document}
use Rattle.ml_driver.specs.declared.question.Question.{Question}
use Rattle.ml_driver.specs.declared.status.Status.{Status}
use Rattle.ml_driver.specs.declared.status.Status.TheVariants.{Yes, No, Undecided, Text}
use Rattle.ml_decision_text.specs.Documents.{undecided_document}
use Rattle.ml_driver.specs.Statuses.{refusal_line}

pub record IsProblem (q : Question) (text : List ℕ) (p : Problem) : Type 0 where
  pub of_logic : logic_of p.formula ≡ q.logic
  pub in_sense : p.negated ≡ q.negated
  pub is_parsed : IsParsedAs text p.formula

-- ---- answers

-- the problem holds at the written state of the written structure
pub record Satisfied (q : Question) (text out : List ℕ) : Type 0 where
  pub problem : Problem
  pub structure : Structure
  pub start : ℕ
  pub is_problem : IsProblem q text problem
  pub is_closed : IsClosed q.way q.limit problem
  pub is_admitted : IsAdmitted (logic_of problem.formula) structure
  pub can_be_written : IsWritten structure start
  pub is_ordered : IsOrdered structure
  pub holds : HoldsAt structure start problem
  pub is_written : out ≡ satisfiable_document problem structure start

-- no admitted structure has a state at which the problem holds, and the written refutation is accepted
pub record Refuted (q : Question) (text out : List ℕ) : Type 0 where
  pub problem : Problem
  pub refutation : Refutation
  pub graph : Graph
  pub is_problem : IsProblem q text problem
  pub is_closed : IsClosed q.way q.limit problem
  pub is_unsatisfiable : ¬ (IsSatisfiable problem)
  pub is_graph : IsGraphOf graph problem
  pub is_refutation : IsRefutation refutation
  pub is_accepted : IsAccepted graph refutation
  pub is_written : IsDocumentOf problem refutation out

pub record LeftOpen (q : Question) (text out : List ℕ) : Type 0 where
  pub problem : Problem
  pub cause : Cause
  pub is_problem : IsProblem q text problem
  pub stays_open : StaysOpen q.limit problem cause
  pub is_written : out ≡ undecided_document problem cause

-- the parser refuses the text, for this cause and at this byte
pub record RefusedText (q : Question) (text out : List ℕ) : Type 0 where
  pub refusal : ParseRefusal
  pub is_refused : IsRefusedBy q.logic text refusal
  pub is_written : Some out ≡ refusal_line refusal

pub data IsAnswered (q : Question) (text : List ℕ) (s : Status) (out : List ℕ) : Type 0 where
  if_satisfied : s ≡ (if q.negated then No else Yes) → Satisfied q text out → IsAnswered q text s out
  if_refuted : s ≡ (if q.negated then Yes else No) → Refuted q text out → IsAnswered q text s out
  if_open : s ≡ Undecided → LeftOpen q text out → IsAnswered q text s out
  if_refused : s ≡ Text → RefusedText q text out → IsAnswered q text s out
