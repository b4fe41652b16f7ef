-- What is asked of the lines of answers is decided.
--
--   decided_kind   == whether it is of the kind that stands there
--   decided_marks  == whether marks name items by the words behind `because`
use Rattle.std.proofs.Common.{◌≡◌, ℕ, Bool, true, false, not, List, [], ◌∷◌, ◌++◌, Option, None, Some, codes, inl, inr, refl, sym, subst, ◌∙◌}
use Rattle.std.proofs.lemmas.Bool.{false≢true}
use Rattle.std.proofs.lemmas.List.{append_cancel_left}
use Rattle.ml_lines.specs.Lines.{Line, Word}
use Rattle.ml_lines.specs.Reading.{AreWords}
use Rattle.ml_lines.proofs.DecidedWords.{decided_front, decided_line, decided_words}
use Rattle.ml_lists.proofs.Decided.{Decided, decided_either, decided_same}
use Rattle.ml_spec.specs.declared.question.Question.{Question}
use Rattle.ml_spec.specs.declared.specification.Item.{Item}
use Rattle.ml_answers.specs.Lines.{question_words, wants_structure, yes_or_no}
use Rattle.ml_answers.specs.Rules.{IsAnswer, IsAnswerLine}
use Rattle.ml_answers.specs.private.Marks.{is_over, scan, split_words, MarkedBy}
use Rattle.ml_answers.specs.declared.names.Mark.{Mark}
use Rattle.ml_answers.proofs.Marking.{AreNamed, Differ}
use Rattle.ml_answers.proofs.Splitting.{found_marked, marks_read, no_marks}

-- ---- kinds

decided_answer : (wants : Bool) (answer : Line) → Decided (IsAnswer wants answer)
decided_answer wants answer =
    decided_either (decided_line answer (yes_or_no wants ∷ []))
    (decided_either (decided_line answer (codes "open" ∷ []))
    (decided_front (yes_or_no (not wants) ∷ codes "because" ∷ []) answer))

pub decided_kind : (xs : List Item) (q : Question) (line : Line) → Decided (IsAnswerLine xs q line)
decided_kind xs q line = by (decided_words line) (decided_front (question_words xs q) line)
  where
    by : Decided (AreWords line)
        → Decided ((answer : Line) × (line ≡ question_words xs q ++ answer))
        → Decided (IsAnswerLine xs q line)
    by (inr none) front = inr (λ is. none is.are_words)
    by (inl words) (inr other) = inr (λ is. other (is.answer, is.is_line))
    by (inl words) (inl (answer, e)) =
        decided_same
        (λ (is : IsAnswer (wants_structure xs q) answer).
        record { are_words = words; answer = answer; is_line = e; is_answer = is })
        (λ (kind : IsAnswerLine xs q line).
        subst (IsAnswer (wants_structure xs q))
        (append_cancel_left (question_words xs q) kind.answer answer (sym kind.is_line ∙ e)) kind.is_answer)
        (decided_answer (wants_structure xs q) answer)

-- ---- names

abbrev pub IsMarked : (ℕ → Bool) → Bool → List Item → List Word → Type 0
IsMarked S wants xs words = (ms : List Mark) × MarkedBy S wants xs ms words

module _ (S : ℕ → Bool) (wants : Bool) (xs : List Item) (words : List Word) (differ : Differ xs) (named : AreNamed xs) where
  not_marked : (a b : List Word)
      → split_words wants words ≡ Some (a, b)
      → ((is_over (scan S 0 xs a b).needed ≡ true) → ¬ ((scan S 0 xs a b).unsettled ≡ []))
      → Decided (IsMarked S wants xs words)
  not_marked a b split none = inr (λ (ms, marked). marks_read S wants xs words differ named a b None split none ms marked)

  by_scan : (a b : List Word)
      → split_words wants words ≡ Some (a, b)
      → (over : Bool)
      → is_over (scan S 0 xs a b).needed ≡ over
      → (left : List Word)
      → (scan S 0 xs a b).unsettled ≡ left
      → Decided (IsMarked S wants xs words)
  by_scan a b split true over [] none =
      inl (
        (scan S 0 xs a b).marks,
        found_marked S wants xs words differ named a b (scan S 0 xs a b).marks
            (record { are_split = split; is_scan = refl; is_over = over; is_empty = none }),
      )
  by_scan a b split true over (w ∷ ws) some =
      not_marked a b split (λ yes none. let nothing : w ∷ ws ≡ [] = sym some ∙ none in absurd cc)
  by_scan a b split false over left is = not_marked a b split (λ yes none. false≢true (sym over ∙ yes))

  pub decided_marks : Decided (IsMarked S wants xs words)
  decided_marks = by (split_words wants words) refl
    where
      by : (o : Option (List Word × List Word)) → split_words wants words ≡ o → Decided (IsMarked S wants xs words)
      by None none = inr (λ (ms, marked). no_marks S wants xs words differ named none ms marked)
      by (Some (a, b)) split =
          by_scan a b split (is_over (scan S 0 xs a b).needed) refl (scan S 0 xs a b).unsettled refl
