-- Of each text something is found.
--
--   verdict_of    == something comes of answers that are read
--   read_found    == something is found of a document that is read
--   some_behind   == of a text behind a specification
--   some_finding  == the law
use Rattle.std.proofs.Common.{◌≡◌, ℕ, ◌+◌, ◌<◌, ◌≤◌, ◌⊎◌, List, Option, None, Some, codes, drop, length, take, inl, inr, refl, sym, subst}
use Rattle.std.proofs.lemmas.Bool.{cases_lt}
use Rattle.ml_front.specs.declared.logic.Logic.{Logic}
use Rattle.ml_spec.specs.Faults.{IsRefused}
use Rattle.ml_spec.specs.Places.{column_at, line_at}
use Rattle.ml_spec.specs.Specification.{IsSpecification}
use Rattle.ml_spec.specs.declared.rule.SpecRule.{SpecRule}
use Rattle.ml_spec.specs.declared.specification.Item.{Item}
use Rattle.ml_spec.proofs.OneAnswer.{some_reading}
use Rattle.ml_spec.proofs.SpecifiedItems.{specified}
use Rattle.ml_replies.specs.Meeting.{everything}
use Rattle.ml_replies.specs.Replies.{Replied}
use Rattle.ml_replies.proofs.WellFormedItems.{items_well}
use Rattle.ml_answers.specs.Checked.{lines_from, longest_specification, placed, AreAnswersAt, IsCheckedAs, IsFoundFrom, IsFoundIn, IsVerdict}
use Rattle.ml_answers.specs.Documents.{title_line}
use Rattle.ml_answers.specs.Due.{begun}
use Rattle.ml_answers.specs.Laws.{SomeFinding}
use Rattle.ml_answers.specs.Rules.{IsAnswersFault}
use Rattle.ml_answers.specs.Texts.{first_line, line_count, IsLine, IsThen}
use Rattle.ml_answers.specs.declared.finding.AnswersFinding.{AnswersFinding}
use Rattle.ml_answers.specs.declared.finding.AnswersFinding.TheVariants.{NoDocument, OpenAt, Refused, Right, TooLong, Unreadable, WrongAt}
use Rattle.ml_answers.proofs.Found.{title_there}
use Rattle.ml_answers.proofs.Judgable.{begun_are, lead_judgable}
use Rattle.ml_answers.proofs.Marking.{items_differ}
use Rattle.ml_answers.proofs.SomeBody.{FaultOf}
use Rattle.ml_answers.proofs.SomeDocument.{some_document, IsRead}
use Rattle.ml_answers.proofs.SomeVerdict.{all_decided, some_verdict}

abbrev pub SomeFrom : List ℕ → List ℕ → Type 0
SomeFrom spec text = (x : AnswersFinding) × IsFoundIn spec text x

module _ (spec text : List ℕ) (short : length spec ≤ longest_specification) (l : Logic) (xs : List Item)
    (is : IsSpecification spec l xs) where
  -- ---- a document that is read

  checked_is : (x : AnswersFinding) → IsCheckedAs l xs (1 + line_count spec) text x → SomeFrom spec text
  checked_is Right so = (Right, (short, (l, xs, is, so)))
  checked_is (OpenAt line) so = (OpenAt line, (short, (l, xs, is, so)))
  checked_is (WrongAt line) so = (WrongAt line, (short, (l, xs, is, so)))
  checked_is TooLong so = absurd so.is_verdict
  checked_is (NoDocument line column) so = absurd so.is_verdict
  checked_is (Refused line column rule) so = absurd so.is_verdict
  checked_is (Unreadable fault) so = absurd so.is_verdict

  pub verdict_of : (rs : List Replied) (ks : List ℕ)
      → AreAnswersAt xs (1 + line_count spec) text rs ks
      → (x : AnswersFinding) × IsVerdict l xs (placed everything rs ks) x
  verdict_of rs ks read =
      let items = specified spec l xs is in
      let well = items_well spec l xs is in
      let judgable = lead_judgable xs (begun xs) read.are_all.0 rs read.are_all.1 (begun_are xs) in
      some_verdict l xs items well (placed everything rs ks)
      (all_decided l xs items well everything rs ks read.texts read.are_texts judgable)

  pub read_found : IsRead xs text → SomeFrom spec text
  read_found read =
      let ks = lines_from (1 + line_count spec + 1) read.texts in
      let answers : AreAnswersAt xs (1 + line_count spec) text read.replies ks =
      record {
        texts = read.texts;
        are_all = read.are_all;
        are_texts = read.are_texts;
        is_text = read.is_text;
        are_lines = refl;
      } in
      let found = verdict_of read.replies ks answers in
      checked_is found.0
      (record { replies = read.replies; lines = ks; are_answers = answers; is_verdict = found.1 })

  -- ---- a document

  pub some_behind : IsThen (IsLine title_line) (λ t. Unit {0}) text → SomeFrom spec text
  some_behind title =
      let items = specified spec l xs is in
      by (some_document xs (items_differ xs items.are_new) items.are_named (1 + line_count spec) text title)
    where
      by : IsRead xs text ⊎ FaultOf (IsAnswersFault xs) (1 + line_count spec) text → SomeFrom spec text
      by (inl read) = read_found read
      by (inr (fault, tells)) = (Unreadable fault, (short, (l, xs, is, tells)))

-- ---- a text

some_in : (spec text : List ℕ) → IsThen (IsLine title_line) (λ t. Unit {0}) text → SomeFrom spec text
some_in spec text title = by (cases_lt longest_specification (length spec))
  where
    of_reading : length spec ≤ longest_specification
        → ((l : Logic) × (xs : List Item) × IsSpecification spec l xs)
        ⊎ ((line : ℕ) × (column : ℕ) × (r : SpecRule) × IsRefused spec line column r)
        → SomeFrom spec text
    of_reading short (inl (l, xs, is)) = some_behind spec text short l xs is title
    of_reading short (inr (line, column, r, refused)) = (Refused line column r, (short, refused))

    by : (longest_specification < length spec) ⊎ (length spec ≤ longest_specification) → SomeFrom spec text
    by (inl long) = (TooLong, long)
    by (inr short) = of_reading short (some_reading spec)

pub some_finding : SomeFinding
some_finding text = by (first_line (codes "mlsolver answers 1") text) refl
  where
    by : (o : Option ℕ)
        → first_line (codes "mlsolver answers 1") text ≡ o
        → (x : AnswersFinding) × IsFoundFrom (first_line (codes "mlsolver answers 1") text) text x
    by None none =
        subst (λ p. (x : AnswersFinding) × IsFoundFrom p text x) (sym none)
        (NoDocument (line_at text (length text)) (column_at text (length text)), (refl, refl))
    by (Some at) there =
        subst (λ p. (x : AnswersFinding) × IsFoundFrom p text x) (sym there)
        (some_in (take at text) (drop at text) (title_there text at there))
