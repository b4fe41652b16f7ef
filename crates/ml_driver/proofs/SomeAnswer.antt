-- For each question and each text some answer is due.
--
-- The text is refused by the parser, or stands for a formula; and each problem has an answer, which is written.
--
--   Answer q text   == some status and some output answer the question of the text
--   told            == what is refused has a line
--   of_problem      == a problem has one
--   some_answer     == each text has one
use Rattle.std.proofs.Common.{◌≡◌, ℕ, ◌<◌, ◌^◌, ◌⊎◌, List, Some, if◌then◌else◌, inl, inr, refl}
use Rattle.ml_base.specs.declared.parse_refusal.ParseRefusal.{ParseRefusal}
use Rattle.ml_base.specs.declared.parse_refusal.ParseRefusal.TheVariants as refusal
use Rattle.ml_refute_check.specs.WrittenDocument.{document_of}
use Rattle.ml_front.proofs.Logics as texts
use Rattle.ml_front.proofs.Logics.{parsed_well}
use Rattle.ml_front.specs.HeadRules.{IsFormulaOf}
use Rattle.ml_front.specs.Logics.{IsRefusedBy}
use Rattle.ml_front.specs.declared.problem.Problem.{Problem}
use Rattle.ml_decide.proofs.SomeDecision.{some_decision}
use Rattle.ml_decide.specs.Laws.{HasAnswer, by_refutation, by_structure, left_open}
use Rattle.ml_model_check.specs.WrittenDocument.{satisfiable_document}
use Rattle.ml_driver.specs.Decision.{IsAnswered, IsProblem, if_open, if_refused, if_refuted, if_satisfied}
use Rattle.ml_decision_text.specs.Documents.{undecided_document}
use Rattle.ml_driver.specs.Statuses.{refusal_line}
use Rattle.ml_driver.specs.declared.question.Question.{Question}
use Rattle.ml_driver.specs.declared.status.Status.{Status}
use Rattle.ml_driver.specs.declared.status.Status.TheVariants.{Yes, No, Undecided, Text}
use Rattle.ml_driver.proofs.Answered as written

abbrev pub Answer : Question → List ℕ → Type 0
Answer q text = (s : Status) × ((out : List ℕ) × IsAnswered q text s out)

-- ---- problems

module _ (q : Question) (text : List ℕ) (p : Problem) (is_problem : IsProblem q text p) where
  by_answer : HasAnswer q.way q.limit p → Answer q text
  by_answer (by_structure is_closed m start met can_be_written is_ordered) =
      let out = satisfiable_document p m start in
      let held = written.satisfied q text p is_problem out m start is_closed met can_be_written is_ordered refl in
      (if q.negated then No else Yes, (out, if_satisfied refl held))
  by_answer (by_refutation is_closed r is) =
      let excluded = written.refuted q text p is_problem (document_of p r) r is_closed is refl in
      (if q.negated then Yes else No, (document_of p r, if_refuted refl excluded))
  by_answer (left_open c stays) =
      let open_there = written.left_open q text p is_problem (undecided_document p c) c stays refl in
      (Undecided, (undecided_document p c, if_open refl open_there))

  of_problem : q.limit < 2 ^ 32 → Answer q text
  of_problem small =
      by_answer (some_decision q.way q.limit p small (parsed_well text p.formula is_problem.is_parsed))

-- ---- texts

-- what is refused for another reason than want of memory has a line
pub told : (e : ParseRefusal) → (e ≡ refusal.NoMemory → ⊥) → (out : List ℕ) × (Some out ≡ refusal_line e)
told (refusal.Syntax at) other = (_, refl)
told (refusal.Unbound at) other = (_, refl)
told (refusal.NotPositive at) other = (_, refl)
told (refusal.TooMany at) other = (_, refl)
told (refusal.TooNested at) other = (_, refl)
told (refusal.NameTooLong at) other = (_, refl)
told refusal.NoMemory other = absurd (other refl)

pub some_answer : (q : Question) (text : List ℕ) → q.limit < 2 ^ 32 → Answer q text
some_answer q text small = parsed (texts.some_answer q.logic text)
  where
    parsed : IsFormulaOf q.logic text ⊎ ((e : ParseRefusal) × (e ≡ refusal.NoMemory → ⊥) × IsRefusedBy q.logic text e)
        → Answer q text
    parsed (inl (f, of_logic, is_parsed)) =
        of_problem q text (record { formula = f; negated = q.negated })
        (record { of_logic = of_logic; in_sense = refl; is_parsed = is_parsed }) small
    parsed (inr (e, other, is_refused)) =
        let line = told e other in
        (Text, (line.0, if_refused refl (record { refusal = e; is_refused = is_refused; is_written = line.1 })))
