-- A text begins with an answer to a question, or has a fault there.
--
--   TakenAnswer xs S q text == the text begins with the line of an answer that may stand there, and its body
--   some_answer == one of the two
use Rattle.std.proofs.Common.{◌≡◌, ℕ, ◌+◌, ◌⊎◌, Bool, not, List, [], ◌∷◌, ◌++◌, codes, map, inl, inr, refl, sym, ap, ◌∙◌}
use Rattle.ml_base.specs.Structure.{Structure}
use Rattle.ml_base.specs.declared.doc_fault.DocFault.{DocFault}
use Rattle.ml_lines.specs.Lines.{Line, line_text}
use Rattle.ml_lists.proofs.Decided.{Decided}
use Rattle.ml_refutation.specs.Refutation.{Refutation}
use Rattle.ml_spec.specs.declared.question.Question.{Question}
use Rattle.ml_spec.specs.declared.specification.Item.{Item}
use Rattle.ml_replies.specs.Replies.{Core, Reply, LeftOpen, Met, Unmet}
use Rattle.ml_answers.specs.Documents.{IsBlock, IsBody}
use Rattle.ml_answers.specs.Due.{is_of_conflict, Fits}
use Rattle.ml_answers.specs.Lines.{asked_name, first_word, line_of, question_words, wants_structure, yes_or_no}
use Rattle.ml_answers.specs.RuleNumbers.{rule_number}
use Rattle.ml_answers.specs.Rules.{replied, IsAnswer, IsAnswerFault, IsAnswerLine, IsBodyFault, IsModelFault}
use Rattle.ml_answers.specs.Texts.{line_count, next_line, IsLine}
use Rattle.ml_answers.specs.declared.names.Mark.{Mark}
use Rattle.ml_answers.specs.declared.rule.AnswersRule.TheVariants as rule
use Rattle.ml_answers.specs.private.Marks.{is_named, MarkedBy}
use Rattle.ml_answers.specs.private.Reads.{ArePartsOf}
use Rattle.ml_answers.proofs.AnswerLines.{names_missing, not_of_kind, some_parts_of}
use Rattle.ml_answers.proofs.DecidedLines.{decided_kind, decided_marks, IsMarked}
use Rattle.ml_answers.proofs.MarkedCores.{core_fits, parts_words}
use Rattle.ml_answers.proofs.Marking.{AreNamed, Differ}
use Rattle.ml_answers.proofs.SomeBody.{some_core, some_model, FaultOf, FaultOfCore, TakenCore, TakenModel}
use Rattle.ml_answers.proofs.TextFronts.{line_is_there, nothing_taken, taken_then, Taken}

pub record TakenAnswer (xs : List Item) (S : ℕ → Bool) (q : Question) (text : List ℕ) : Type 0 where
  pub reply : Reply
  pub fits : Fits xs S q reply
  pub taken : Taken (IsBlock xs (replied q reply)) text

abbrev pub AnswerOrFault : List Item → (ℕ → Bool) → Question → ℕ → List ℕ → Type 0
AnswerOrFault xs S q k text = TakenAnswer xs S q text ⊎ FaultOf (IsAnswerFault xs S q) k text

no_states : Structure
no_states = record { states = 0; labels = []; edges = [] }

no_entries : Refutation
no_entries = record { names = 0; entries = [] }

module _ (xs : List Item) (S : ℕ → Bool) (q : Question) (k : ℕ) (text : List ℕ) where
  -- ---- behind the line

  module _ (line : Line) (rest : List ℕ) (both : text ≡ line_text line ++ rest) where
    answer_there : (r : Reply)
        → Fits xs S q r
        → line ≡ line_of xs (replied q r)
        → Taken (IsBody xs r) rest
        → TakenAnswer xs S q text
    answer_there r fits is body = record {
      reply = r;
      fits = fits;
      taken =
          taken_then (IsLine (line_of xs (replied q r))) (IsBody xs r) text (line_text line) rest both (ap line_text is) body;
    }

    body_fault : (r : Reply) (fault : DocFault)
        → Fits xs S q r
        → line ≡ line_of xs (replied q r)
        → IsBodyFault xs r (k + line_count (line_text line)) rest fault
        → IsAnswerFault xs S q k text fault
    body_fault r fault fits is tells =
        inr (
          r,
          fits,
          record {
            front = line_text line;
            rest = rest;
            are_both = both;
            is_front = ap line_text is;
            is_fault = tells;
          },
        )

    by_structure : line ≡ question_words xs q ++ yes_or_no (wants_structure xs q) ∷ [] → AnswerOrFault xs S q k text
    by_structure is = by (some_model (k + line_count (line_text line)) rest)
      where
        by : TakenModel rest ⊎ FaultOf IsModelFault (k + line_count (line_text line)) rest → AnswerOrFault xs S q k text
        by (inl (m, s, body)) = inl (answer_there (Met m s) tt is body)
        by (inr (fault, tells)) = inr (fault, body_fault (Met no_states 0) fault tt is tells)

    by_nothing : line ≡ question_words xs q ++ codes "open" ∷ [] → AnswerOrFault xs S q k text
    by_nothing is = inl (answer_there LeftOpen tt is (nothing_taken rest))

    by_names : (ws : Line) (ms : List Mark)
        → line ≡ question_words xs q ++ yes_or_no (not (wants_structure xs q)) ∷ codes "because" ∷ ws
        → MarkedBy S (is_of_conflict q) xs ms ws
        → AnswerOrFault xs S q k text
    by_names ws ms is marked = by (some_core xs ms (k + line_count (line_text line)) rest)
      where
        line_is : (c : Core) → ArePartsOf 0 ms c.parts → line ≡ line_of xs (replied q (Unmet c))
        line_is c parts =
            is
            ∙ ap (λ vs. question_words xs q ++ yes_or_no (not (wants_structure xs q)) ∷ codes "because" ∷ vs)
            (marked.are_words ∙ sym (parts_words S xs ms c.parts marked.are_marks parts))

        fits : (c : Core) → c.taken ≡ map is_named ms → ArePartsOf 0 ms c.parts → Fits xs S q (Unmet c)
        fits c taken parts = core_fits S xs q ms c marked.are_marks marked.some_named taken parts

        by : TakenCore xs ms rest ⊎ FaultOfCore xs ms (k + line_count (line_text line)) rest → AnswerOrFault xs S q k text
        by (inl is_core) =
            inl (answer_there (Unmet is_core.core) (fits is_core.core is_core.taken is_core.parts)
            (line_is is_core.core is_core.parts) is_core.body)
        by (inr (fault, tells)) =
            let some = some_parts_of 0 ms in
            let c : Core = record { taken = map is_named ms; parts = some.0; refutation = no_entries } in
            inr (fault, body_fault (Unmet c) fault (fits c refl some.1) (line_is c some.1) (tells c some.1))

  -- ---- the line

  -- the line breaks a rule
  breaks_kind : ¬ (IsAnswerLine xs q (next_line text)) → AnswerOrFault xs S q k text
  breaks_kind other =
      inr (
        record { line = k; rule = rule_number rule.OfKind },
        inl (refl, not_of_kind xs q (next_line text) S other),
      )

  breaks_names : (ws : Line)
      → IsAnswerLine xs q (next_line text)
      → next_line text ≡ question_words xs q ++ yes_or_no (not (wants_structure xs q)) ∷ codes "because" ∷ ws
      → ((ms : List Mark) → ¬ (MarkedBy S (is_of_conflict q) xs ms ws))
      → AnswerOrFault xs S q k text
  breaks_names ws kind is none =
      inr (
        record { line = k; rule = rule_number rule.Names },
        inl (refl, inr (kind, inl (refl, names_missing xs q (next_line text) S ws is none))),
      )

  module _ (differ : Differ xs) (named : AreNamed xs) where
    by_kind : IsAnswerLine xs q (next_line text) → AnswerOrFault xs S q k text
    by_kind kind = by kind.answer kind.is_line kind.is_answer
      where
        on : (a b : Line) → a ≡ b → question_words xs q ++ a ≡ question_words xs q ++ b
        on a b same = ap (λ ws. question_words xs q ++ ws) same

        by_marks : (a ws : Line)
            → next_line text ≡ question_words xs q ++ a
            → a ≡ yes_or_no (not (wants_structure xs q)) ∷ codes "because" ∷ ws
            → Decided (IsMarked S (is_of_conflict q) xs ws)
            → AnswerOrFault xs S q k text
        by_marks a ws is e (inl (ms, marked)) =
            let there = line_is_there text (first_word xs q) (asked_name xs q ++ a) is in
            by_names (question_words xs q ++ a) there.0 there.1 ws ms
            (on a (yes_or_no (not (wants_structure xs q)) ∷ codes "because" ∷ ws) e) marked
        by_marks a ws is e (inr none) =
            breaks_names ws kind (is ∙ on a (yes_or_no (not (wants_structure xs q)) ∷ codes "because" ∷ ws) e)
            (λ ms marked. none (ms, marked))

        by : (a : Line)
            → next_line text ≡ question_words xs q ++ a
            → IsAnswer (wants_structure xs q) a
            → AnswerOrFault xs S q k text
        by a is (inl e) =
            let there = line_is_there text (first_word xs q) (asked_name xs q ++ a) is in
            by_structure (question_words xs q ++ a) there.0 there.1 (on a (yes_or_no (wants_structure xs q) ∷ []) e)
        by a is (inr (inl e)) =
            let there = line_is_there text (first_word xs q) (asked_name xs q ++ a) is in
            by_nothing (question_words xs q ++ a) there.0 there.1 (on a (codes "open" ∷ []) e)
        by a is (inr (inr (ws, e))) = by_marks a ws is e (decided_marks S (is_of_conflict q) xs ws differ named)

    pub some_answer : AnswerOrFault xs S q k text
    some_answer = by (decided_kind xs q (next_line text))
      where
        by : Decided (IsAnswerLine xs q (next_line text)) → AnswerOrFault xs S q k text
        by (inl kind) = by_kind kind
        by (inr other) = breaks_kind other
