-- One thing at most is found of a text.
--
--   one_checked    == of a document of answers to the questions of a specification one thing comes at most
--   one_fault      == a document has one first bad line at most
--   checked_or_bad == and none where something comes of its answers
--   View           == what is found behind a specification, by its kinds
--   one_finding    == so one thing is found of a text
use Rattle.std.proofs.Common.{◌≡◌, ℕ, ◌+◌, ◌<◌, ◌≤◌, List, ◌++◌, Option, None, Some, codes, drop, length, take, inl, inr, refl, sym, ap, subst, ◌∙◌, arith}
use Rattle.ml_base.specs.declared.doc_fault.DocFault.{DocFault}
use Rattle.ml_front.specs.declared.logic.Logic.{Logic}
use Rattle.ml_lines.specs.Lines.{line_text}
use Rattle.ml_spec.proofs.OneAnswer.{never_both, one_refusal, one_specification}
use Rattle.ml_spec.proofs.SpecifiedItems.{specified}
use Rattle.ml_spec.specs.Faults.{IsRefused}
use Rattle.ml_spec.specs.Specification.{IsSpecification, IsSpecified}
use Rattle.ml_spec.specs.declared.rule.SpecRule.{SpecRule}
use Rattle.ml_spec.specs.declared.specification.Item.{Item}
use Rattle.ml_replies.specs.Meeting.{everything}
use Rattle.ml_replies.specs.Replies.{Replied}
use Rattle.ml_answers.specs.Checked.{lines_from, longest_specification, placed, IsCheckedAs, IsFoundFrom, IsFoundIn, IsVerdict}
use Rattle.ml_answers.specs.Documents.{last_line, title_line}
use Rattle.ml_answers.specs.Due.{begun, Due}
use Rattle.ml_answers.specs.Laws.{OneFinding}
use Rattle.ml_answers.specs.Rules.{IsAnswersFault, IsDueFault}
use Rattle.ml_answers.specs.Texts.{first_line, line_count, one_text}
use Rattle.ml_answers.specs.declared.finding.AnswersFinding.{AnswersFinding}
use Rattle.ml_answers.specs.declared.finding.AnswersFinding.TheVariants.{NoDocument, OpenAt, Refused, Right, TooLong, Unreadable, WrongAt}
use Rattle.ml_answers.proofs.Judgable.{begun_are, lead_judgable}
use Rattle.ml_answers.proofs.Marking.{items_differ, Differ}
use Rattle.ml_answers.proofs.OneDocument.{due_fault, lead_asked, none_due, readings_same, texts_of, Reading}
use Rattle.ml_answers.proofs.OneVerdict.{one_verdict, placed_asked}

-- ---- one specification

module _ (l : Logic) (xs : List Item) (is : IsSpecified l xs) where
  differ : Differ xs
  differ = items_differ xs is.are_new

  -- ---- what comes of answers

  checked_reading : (k : ℕ) (text : List ℕ) (x : AnswersFinding) (c : IsCheckedAs l xs k text x)
      → Reading xs is.are_named differ text c.replies c.are_answers.texts c.are_answers.are_all.0 (line_text last_line)
  checked_reading k text x c =
      let a = c.are_answers in
      record {
        is_text = a.is_text;
        run = record { lead = a.are_all.1; are_texts = a.are_texts; ends = inl (a.are_all.2, refl) };
      }

  one_checked : (k : ℕ) (text : List ℕ) (x y : AnswersFinding) → IsCheckedAs l xs k text x → IsCheckedAs l xs k text y → x ≡ y
  one_checked k text x y c d =
      let a = c.are_answers in
      let b = d.are_answers in
      let same =
      readings_same xs is.are_named differ text c.replies d.replies a.texts b.texts a.are_all.0 b.are_all.0
      (line_text last_line) (line_text last_line) (checked_reading k text x c) (checked_reading k text y d) in
      let lines : d.lines ≡ c.lines = b.are_lines ∙ ap (lines_from (k + 1)) (sym same.0.1) ∙ sym a.are_lines in
      one_verdict l xs is (placed everything c.replies c.lines)
      (placed_asked xs everything c.replies c.lines
      (lead_judgable xs (begun xs) a.are_all.0 c.replies a.are_all.1 (begun_are xs)))
      x y c.is_verdict
      (subst (λ rs. IsVerdict l xs (placed everything rs c.lines) y) (sym same.0.0)
      (subst (λ ks. IsVerdict l xs (placed everything d.replies ks) y) lines d.is_verdict))

  -- ---- faults

  -- what is read before a fault
  record BadReading (k : ℕ) (text : List ℕ) (e : DocFault) : Type 0 where
    pub replies : List Replied
    pub texts : List (List ℕ)
    pub due : Due
    pub rest : List ℕ
    pub reading : Reading xs is.are_named differ text replies texts due rest
    pub bad : IsDueFault xs due (k + line_count (line_text title_line) + line_count (one_text texts)) rest e

  bad_reading : (k : ℕ) (text : List ℕ) (e : DocFault) → IsAnswersFault xs k text e → BadReading k text e
  bad_reading k text e (rs, d, lead, b) =
      let c = b.is_fault in
      let ts = texts_of xs rs c.front c.is_front in
      let bad : IsDueFault xs d (k + line_count (line_text title_line) + line_count (one_text ts.0)) c.rest e =
      subst (λ u. IsDueFault xs d (k + line_count (line_text title_line) + line_count u) c.rest e) ts.2
      (subst (λ u. IsDueFault xs d (k + line_count u + line_count c.front) c.rest e) b.is_front c.is_fault) in
      record {
        replies = rs;
        texts = ts.0;
        due = d;
        rest = c.rest;
        reading = record {
          is_text =
              b.are_both
              ∙ ap (λ u. u ++ b.rest) b.is_front
              ∙ ap (λ u. line_text title_line ++ u) (c.are_both ∙ ap (λ u. u ++ c.rest) ts.2);
          run = record {
            lead = lead;
            are_texts = ts.1;
            ends = inr (k + line_count (line_text title_line) + line_count (one_text ts.0), e, bad);
          };
        };
        bad = bad;
      }

  one_fault : (k : ℕ) (text : List ℕ) (e f : DocFault) → IsAnswersFault xs k text e → IsAnswersFault xs k text f → e ≡ f
  one_fault k text e f x y =
      let a = bad_reading k text e x in
      let b = bad_reading k text f y in
      let same =
      readings_same xs is.are_named differ text a.replies b.replies a.texts b.texts a.due b.due a.rest b.rest a.reading
      b.reading in
      let from = k + line_count (line_text title_line) in
      due_fault xs is.are_named differ b.due (from + line_count (one_text b.texts)) b.rest e f
      (lead_asked xs is.are_named differ (begun xs) b.due b.replies b.reading.run.lead (begun_are xs))
      (subst (λ d. IsDueFault xs d (from + line_count (one_text b.texts)) b.rest e) same.0.2
      (subst (λ ts. IsDueFault xs a.due (from + line_count (one_text ts)) b.rest e) same.0.1
      (subst (λ u. IsDueFault xs a.due (from + line_count (one_text a.texts)) u e) same.1 a.bad)))
      b.bad

  checked_or_bad : (k : ℕ) (text : List ℕ) (x : AnswersFinding) (e : DocFault)
      → IsCheckedAs l xs k text x
      → IsAnswersFault xs k text e
      → ⊥
  checked_or_bad k text x e c y =
      let b = bad_reading k text e y in
      let d = c.are_answers.are_all.0 in
      let same =
      readings_same xs is.are_named differ text c.replies b.replies c.are_answers.texts b.texts d b.due (line_text last_line)
      b.rest
      (checked_reading k text x c) b.reading in
      let at = k + line_count (line_text title_line) + line_count (one_text b.texts) in
      none_due xs is.are_named differ d.rest d.questions at b.rest e c.are_answers.are_all.2 (sym same.1)
      (subst (λ z. IsDueFault xs z at b.rest e) (sym same.0.2) b.bad)

-- ---- one text

-- what is found of a document, by its kinds
data View (spec text : List ℕ) (x : AnswersFinding) : Type 0 where
  is_too_long : longest_specification < length spec → x ≡ TooLong → View spec text x
  is_refused : length spec ≤ longest_specification
      → (line column : ℕ) (r : SpecRule) → IsRefused spec line column r → x ≡ Refused line column r → View spec text x
  is_unreadable : length spec ≤ longest_specification
      → (l : Logic) (xs : List Item) → IsSpecification spec l xs
      → (f : DocFault) → IsAnswersFault xs (1 + line_count spec) text f → x ≡ Unreadable f → View spec text x
  is_checked : length spec ≤ longest_specification
      → (l : Logic) (xs : List Item) → IsSpecification spec l xs
      → IsCheckedAs l xs (1 + line_count spec) text x → View spec text x

view : (spec text : List ℕ) (x : AnswersFinding) → IsFoundIn spec text x → View spec text x
view spec text TooLong found = is_too_long found refl
view spec text (Refused line column r) found = is_refused found.0 line column r found.1 refl
view spec text (Unreadable f) (short, (l, xs, is, found)) = is_unreadable short l xs is f found refl
view spec text Right (short, (l, xs, is, found)) = is_checked short l xs is found
view spec text (OpenAt line) (short, (l, xs, is, found)) = is_checked short l xs is found
view spec text (WrongAt line) (short, (l, xs, is, found)) = is_checked short l xs is found
view spec text (NoDocument line column) (short, (l, xs, is, found)) = is_checked short l xs is found

module _ (spec text : List ℕ) where
  -- of two specifications with this text
  abbrev Same : Logic → Logic → List Item → List Item → Type 0
  Same l k xs ys = (l ≡ k) × (xs ≡ ys)

  faults_same : (l k : Logic) (xs ys : List Item) (e f : DocFault)
      → IsSpecification spec l xs
      → Same l k xs ys
      → IsAnswersFault xs (1 + line_count spec) text e
      → IsAnswersFault ys (1 + line_count spec) text f
      → e ≡ f
  faults_same l k xs ys e f is same x y =
      one_fault l xs (specified spec l xs is) (1 + line_count spec) text e f x
      (subst (λ zs. IsAnswersFault zs (1 + line_count spec) text f) (sym same.1) y)

  checked_in : (l k : Logic) (xs ys : List Item) (x : AnswersFinding)
      → Same l k xs ys
      → IsCheckedAs k ys (1 + line_count spec) text x
      → IsCheckedAs l xs (1 + line_count spec) text x
  checked_in l k xs ys x same c =
      subst (λ m. IsCheckedAs m xs (1 + line_count spec) text x) (sym same.0)
      (subst (λ zs. IsCheckedAs k zs (1 + line_count spec) text x) (sym same.1) c)

  never_two : (l k : Logic) (xs ys : List Item) (x : AnswersFinding) (f : DocFault)
      → IsSpecification spec l xs
      → Same l k xs ys
      → IsCheckedAs k ys (1 + line_count spec) text x
      → IsAnswersFault xs (1 + line_count spec) text f
      → ⊥
  never_two l k xs ys x f is same c bad =
      checked_or_bad l xs (specified spec l xs is) (1 + line_count spec) text x f (checked_in l k xs ys x same c) bad

  one_view : (x y : AnswersFinding) → View spec text x → View spec text y → x ≡ y
  one_view x y (is_too_long a p) (is_too_long b q) = p ∙ sym q
  one_view x y (is_too_long a p) (is_refused b line column r is q) = absurd (omega (arith, a, b))
  one_view x y (is_too_long a p) (is_unreadable b l xs is f found q) = absurd (omega (arith, a, b))
  one_view x y (is_too_long a p) (is_checked b l xs is found) = absurd (omega (arith, a, b))
  one_view x y (is_refused a line column r is p) (is_too_long b q) = absurd (omega (arith, a, b))
  one_view x y (is_refused a line column r is p) (is_refused b row place s also q) =
      let same = one_refusal spec line column r row place s is also in
      let told : Refused line column r ≡ Refused row place s = λ i. Refused (same.0 i) (same.1 i) (same.2 i) in
      p ∙ told ∙ sym q
  one_view x y (is_refused a line column r is p) (is_unreadable b l xs also f found q) =
      absurd (never_both spec l xs line column r also is)
  one_view x y (is_refused a line column r is p) (is_checked b l xs also found) =
      absurd (never_both spec l xs line column r also is)
  one_view x y (is_unreadable a l xs is f found p) (is_too_long b q) = absurd (omega (arith, a, b))
  one_view x y (is_unreadable a l xs is f found p) (is_refused b line column r also q) =
      absurd (never_both spec l xs line column r is also)
  one_view x y (is_unreadable a l xs is f found p) (is_unreadable b k ys also g other q) =
      p ∙ ap Unreadable (faults_same l k xs ys f g is (one_specification spec l k xs ys is also) found other) ∙ sym q
  one_view x y (is_unreadable a l xs is f found p) (is_checked b k ys also other) =
      absurd (never_two l k xs ys y f is (one_specification spec l k xs ys is also) other found)
  one_view x y (is_checked a l xs is found) (is_too_long b q) = absurd (omega (arith, a, b))
  one_view x y (is_checked a l xs is found) (is_refused b line column r also q) =
      absurd (never_both spec l xs line column r is also)
  one_view x y (is_checked a l xs is found) (is_unreadable b k ys also g other q) =
      absurd (never_two k l ys xs x g also (one_specification spec k l ys xs also is) found other)
  one_view x y (is_checked a l xs is found) (is_checked b k ys also other) =
      one_checked l xs (specified spec l xs is) (1 + line_count spec) text x y found
      (checked_in l k xs ys y (one_specification spec l k xs ys is also) other)

none_found : (text : List ℕ) (x y : AnswersFinding) → IsFoundFrom None text x → IsFoundFrom None text y → x ≡ y
none_found text (NoDocument k c) (NoDocument j d) a b =
    let line : k ≡ j = a.0 ∙ sym b.0 in
    let column : c ≡ d = a.1 ∙ sym b.1 in
    λ i. NoDocument (line i) (column i)
none_found text Right y a b = absurd a
none_found text (OpenAt k) y a b = absurd a
none_found text (WrongAt k) y a b = absurd a
none_found text TooLong y a b = absurd a
none_found text (Refused k c r) y a b = absurd a
none_found text (Unreadable f) y a b = absurd a
none_found text x Right a b = absurd b
none_found text x (OpenAt k) a b = absurd b
none_found text x (WrongAt k) a b = absurd b
none_found text x TooLong a b = absurd b
none_found text x (Refused k c r) a b = absurd b
none_found text x (Unreadable f) a b = absurd b

pub one_finding : OneFinding
one_finding text x y = by (first_line (codes "mlsolver answers 1") text)
  where
    by : (o : Option ℕ) → IsFoundFrom o text x → IsFoundFrom o text y → x ≡ y
    by None a b = none_found text x y a b
    by (Some at) a b =
        one_view (take at text) (drop at text) x y (view (take at text) (drop at text) x a) (view (take at text) (drop at text) y b)
