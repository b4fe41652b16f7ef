-- What `ask files` writes is what `check-answers` finds right, behind its file, and the other way round.
--
--   none_left_open   == of answers that are settled none is left open
--   not_undecided    == so the status isn't that of a file that stays undecided
--   asked_is_checked == what is due for `ask files` is answered `right` behind its file, or with a line that is open
--   right_is_asked   == what is answered `right` is due for `ask files`
use Rattle.std.proofs.Common.{◌≡◌, ◌≢◌, ℕ, ◌≤◌, ◌⊎◌, ◌++◌, ◌||◌, Bool, true, false, List, [], ◌∷◌, Some, if◌then◌else◌, inl, inr, refl, sym, ap, subst, ◌∙◌, ⊎_elim, arith}
use Rattle.std.specs.List.{list_any}
use Rattle.std.proofs.lemmas.Bool.{true≢false}
use Rattle.ml_answers.proofs.AnswersAreRight.{answers_are_right}
use Rattle.ml_answers.proofs.RightIsTrue.{right_is_true}
use Rattle.ml_answers.specs.Checked.{IsFound}
use Rattle.ml_answers.specs.Documents.{IsDocumentOf}
use Rattle.ml_answers.specs.Laws.{AreSettled, IsOf, IsSettledReply}
use Rattle.ml_answers.specs.declared.finding.AnswersFinding.{AnswersFinding}
use Rattle.ml_answers.specs.declared.finding.AnswersFinding.TheVariants as found
use Rattle.ml_ask_text.specs.Told.{is_against, is_left_open, stays_open, verdict_of, IsAnswered, IsToldOf}
use Rattle.ml_ask_text.specs.declared.told.Form.TheVariants.{Files}
use Rattle.ml_ask_text.specs.declared.told.Told.{Told}
use Rattle.ml_ask_text.specs.declared.told.Told.TheVariants.{Answered, Refused}
use Rattle.ml_ask_text.specs.declared.told.Verdict.TheVariants.{AsMeant, Against, Open}
use Rattle.ml_lines.specs.Reading.{left_of}
use Rattle.ml_replies.specs.Replies.{Replied, Reply, LeftOpen, Met, Unmet}
use Rattle.ml_spec.specs.declared.specification.Item.{Item}
use Rattle.ml_driver.specs.Asked.{requirements_told, status_of}
use Rattle.ml_driver.specs.CheckedAnswers.{said_of, AreAnswersTold}
use Rattle.ml_driver.specs.Codes.{code_of}
use Rattle.ml_driver.specs.Laws.{AreFoundOpen, AreFoundRight, AskIsChecked, IsFileWithAnswers, RightIsAsked}
use Rattle.ml_driver.specs.Run.{IsDue, IsWithin}
use Rattle.ml_driver.specs.Said.{said_text, status_said}
use Rattle.ml_driver.specs.declared.command.Command.TheVariants.{CheckAnswers}
use Rattle.ml_driver.specs.declared.status.Status.{Status}
use Rattle.ml_driver.specs.declared.status.Status.TheVariants.{Text, Undecided, Yes}

settled_is_closed : (r : Reply) → IsSettledReply r → stays_open r ≡ false
settled_is_closed (Met m s) is = refl
settled_is_closed (Unmet c) is = refl
settled_is_closed LeftOpen is = absurd is

none_left_open : (rs : List Replied) → AreSettled rs → list_any is_left_open rs ≡ false
none_left_open [] are = refl
none_left_open (r ∷ rs) are =
    ap (λ b. b || list_any is_left_open rs) (settled_is_closed r.reply are.0) ∙ none_left_open rs are.1

not_undecided : (xs : List Item) (rs : List Replied) → AreSettled rs → status_of (verdict_of xs rs) ≢ Undecided
not_undecided xs rs are = by_lines (list_any (is_against xs) rs) (list_any is_left_open rs) (none_left_open rs are)
  where
    by_lines : (against left : Bool)
        → left ≡ false
        → status_of (if against then Against else if left then Open else AsMeant) ≢ Undecided
    by_lines true left closed is = absurd (omega (arith, ap code_of is))
    by_lines false true closed is = absurd (true≢false closed)
    by_lines false false closed is = absurd (omega (arith, ap code_of is))

-- what is due where this is found
found_due : (text : List ℕ) (x : AnswersFinding)
    → IsWithin CheckAnswers text
    → IsFound text x
    → IsDue (Some CheckAnswers) text (status_said (said_of x)) (said_text (said_of x))
found_due text x within is = inl (within, record { finding = x; is_found = is; is_said = (refl, refl) })

pub asked_is_checked : AskIsChecked
asked_is_checked n text s out whole within no_refusal (inr long) = absurd (no_refusal long.1.0)
asked_is_checked n text s out whole within no_refusal (inl (short, asked)) =
    by_told asked.told asked.is_told asked.status_is asked.is_written
  where
    by_told : (t : Told) → IsToldOf Files text n t → s ≡ (requirements_told t).0 → out ≡ (requirements_told t).1
        → ((s ≢ Undecided) × AreFoundRight (text ++ out)) ⊎ AreFoundOpen (text ++ out)
    by_told (Refused line column rule) is status_is written = absurd (no_refusal status_is)
    by_told (Answered v written) is status_is written_is =
        let of : IsOf (text ++ out) is.logic is.items is.replies = record {
          spec = text;
          document = out;
          are_both = refl;
          is_short = short;
          is_whole = whole;
          is_specification = is.is_specification;
          is_document = subst (IsDocumentOf is.items is.replies) (sym written_is) is.is_written;
        } in
        ⊎_elim
        (λ right. inl (
          (λ undecided. not_undecided is.items is.replies right.0 (sym (ap status_of is.is_verdict) ∙ sym status_is ∙ undecided)),
          found_due (text ++ out) found.Right within right.1,
        ))
        (λ wanting. inr (wanting.1.0, found_due (text ++ out) (found.OpenAt wanting.1.0) within wanting.1.1))
        (answers_are_right (text ++ out) is.logic is.items is.replies n of is.are_replies)

pub right_is_asked : RightIsAsked
right_is_asked text out (inr long) = absurd (omega (arith, ap code_of long.1.0))
right_is_asked text out (inl (within, told)) = by_finding told.finding told.is_found told.is_said.0
  where
    by_finding : (x : AnswersFinding) → IsFound text x → Yes ≡ status_said (said_of x) → IsFileWithAnswers text
    by_finding found.Right is said =
        let right = right_is_true text is in
        let xs = right.1 in
        let rs = right.2 in
        let of = right.3 in (
          of.spec,
          of.document,
          of.are_both,
          λ n. (
            status_of (verdict_of xs rs),
            inl (
              of.is_short,
              record {
                told = Answered (verdict_of xs rs) of.document;
                is_told = record {
                  logic = right.0;
                  items = xs;
                  replies = rs;
                  is_specification = of.is_specification;
                  are_replies = right.4 n;
                  is_verdict = refl;
                  is_written = of.is_document;
                };
                status_is = refl;
                is_written = refl;
              },
            ),
          ),
        )
    by_finding (found.WrongAt line) is said = absurd (omega (arith, ap code_of said))
    by_finding (found.OpenAt line) is said = absurd (omega (arith, ap code_of said))
    by_finding found.TooLong is said = absurd (omega (arith, ap code_of said))
    by_finding (found.NoDocument line column) is said = absurd (omega (arith, ap code_of said))
    by_finding (found.Refused line column rule) is said = absurd (omega (arith, ap code_of said))
    by_finding (found.Unreadable fault) is said = absurd (omega (arith, ap code_of said))
