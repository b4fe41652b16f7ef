-- The answers of a specification are found right, or open where they aren't settled.
--
--   not_wrong        == what answers a question isn't wrong
--   settled_shown    == where it is settled, it is shown
--   shown_settled    == and only there
--   first_open       == of answers all are shown, or one is the first that isn't
--   texts_of         == the answers of a document have their texts
--   answers_are_right == the law
use Rattle.std.proofs.Common.{◌≡◌, ℕ, ◌+◌, ◌⊎◌, inl, inr, Bool, List, [], ◌∷◌, ◌++◌, Some, codes, length, take, drop, map, refl, sym, ap, subst, ◌∙◌, arith}
use Rattle.std.specs.List.{AllByRecursion}
use Rattle.std.proofs.lemmas.List.{drop_at, take_at}
use Rattle.ml_front.specs.declared.logic.Logic.{Logic}
use Rattle.ml_lines.specs.Lines.{line_text}
use Rattle.ml_spec.proofs.SpecifiedItems as items
use Rattle.ml_spec.specs.Joined.{requirements}
use Rattle.ml_spec.specs.Questions.{asking, is_in, IsQuestion}
use Rattle.ml_spec.specs.Specification.{IsSpecified}
use Rattle.ml_spec.specs.declared.question.Question.{Question}
use Rattle.ml_spec.specs.declared.specification.Item.{Item}
use Rattle.ml_replies.proofs.OneCheck.{one_check}
use Rattle.ml_replies.specs.Meeting.{everything, problem_of, without}
use Rattle.ml_replies.specs.Replies as replies
use Rattle.ml_replies.specs.Replies.{Core, IsCore, IsPart, IsReply, Part, Replied, Reply, LeftOpen, Met, StillMet, StillOpen, Unmet, Without}
use Rattle.ml_answers.specs.Checked as checked
use Rattle.ml_answers.specs.Checked.{lines_from, placed, AreShown, AreTexts, IsCheckedAs, IsFirst, IsFound, IsFoundIn, IsRefuted, IsShownAt, IsShownBy, IsShownWithout, IsVerdict, IsWrongAt, Placed, SomeWrong}
use Rattle.ml_answers.specs.Documents.{title_line, AreBlocks}
use Rattle.ml_answers.specs.Due.{rest_behind, with_consistency}
use Rattle.ml_answers.specs.Laws.{AnswersAreRight, AreSettled, IsOf, IsSettledReply, IsSettledWithout}
use Rattle.ml_answers.specs.Texts.{first_line, line_count, one_text}
use Rattle.ml_answers.specs.declared.finding.AnswersFinding.{AnswersFinding}
use Rattle.ml_answers.specs.declared.finding.AnswersFinding.TheVariants.{OpenAt, Right}
use Rattle.ml_answers.proofs.AnswerTexts.{as_many}
use Rattle.ml_answers.proofs.CleanedCores.{block_cleaned, cleaned, cleaned_reply}
use Rattle.ml_answers.proofs.Found.{found_from}
use Rattle.ml_answers.proofs.NeverWrong.{never_fails, never_refuted}
use Rattle.ml_answers.proofs.RightAnswers.{asking_both}
use Rattle.ml_answers.proofs.StandingAnswers.{all_go, GoesOn, IsAnswered}
use Rattle.ml_answers.proofs.TitleFirst.{title_behind}

-- ---- one answer

abbrev pub AreSettledParts : List Part → Type 0
AreSettledParts ps = AllByRecursion (λ p. IsSettledWithout p.without) ps

module _ (l : Logic) (xs : List Item) (n : ℕ) where
  refuted_so : (S : ℕ → Bool) (q : Question) (c : Core)
      → IsCore l xs n S q c
      → IsRefuted (problem_of l xs (is_in c.taken) q) c.refutation
  refuted_so S q c is =
      record { is_held = is.is_held; is_small = is.is_small; is_accepted = is.is_refuted.is_accepted }

  module _ (specified : IsSpecified l xs) where
    parts_right : (S : ℕ → Bool) (q : Question) (ps : List Part)
        → IsQuestion xs q
        → AllByRecursion (IsPart l xs n S q) ps
        → ¬ (SomeWrong l xs S q ps)
    parts_right S q [] question are wrong = wrong
    parts_right S q (p ∷ ps) question are (inr wrong) = parts_right S q ps question are.1 wrong
    parts_right S q (p ∷ ps) question are (inl wrong) = by p.without are.0 wrong
      where
        by : (w : Without)
            → replies.IsWithout l xs n (without S p.requirement) q w
            → ¬ (checked.IsWrongWithout l xs (without S p.requirement) q w)
        by (StillMet m s) shown fails =
            never_fails one_check l xs q specified question (without S p.requirement) m s shown fails
        by StillOpen is wrong = wrong

    pub not_wrong : (S : ℕ → Bool) (q : Question) (r : Reply)
        → IsQuestion xs q
        → IsReply l xs n S q r
        → ¬ (checked.IsWrong l xs S q r)
    not_wrong S q (Met m s) question is fails = never_fails one_check l xs q specified question S m s is fails
    not_wrong S q (Unmet c) question is (inl ne) =
        never_refuted (problem_of l xs (is_in c.taken) q) c.refutation (refuted_so S q c is) ne
    not_wrong S q (Unmet c) question is (inr wrong) = parts_right (is_in c.taken) q c.parts question is.are_so wrong
    not_wrong S q LeftOpen question is wrong = wrong

  parts_shown : (S : ℕ → Bool) (q : Question) (ps : List Part)
      → AllByRecursion (IsPart l xs n S q) ps
      → AreSettledParts ps
      → AreShown l xs S q ps
  parts_shown S q [] are settled = tt
  parts_shown S q (p ∷ ps) are settled = (by p.without are.0 settled.0, parts_shown S q ps are.1 settled.1)
    where
      by : (w : Without)
          → replies.IsWithout l xs n (without S p.requirement) q w
          → IsSettledWithout w
          → IsShownWithout l xs (without S p.requirement) q w
      by (StillMet m s) shown settled = shown
      by StillOpen is settled = absurd settled

  pub settled_shown : (S : ℕ → Bool) (q : Question) (r : Reply)
      → IsReply l xs n S q r
      → IsSettledReply r
      → IsShownBy l xs S q r
  settled_shown S q (Met m s) is settled = is
  settled_shown S q (Unmet c) is settled = (refuted_so S q c is, parts_shown (is_in c.taken) q c.parts is.are_so settled)
  settled_shown S q LeftOpen is settled = absurd settled

module _ (l : Logic) (xs : List Item) where
  parts_settled : (S : ℕ → Bool) (q : Question) (ps : List Part) → AreShown l xs S q ps → AreSettledParts ps
  parts_settled S q [] shown = tt
  parts_settled S q (p ∷ ps) shown = (by p.without shown.0, parts_settled S q ps shown.1)
    where
      by : (w : Without) → IsShownWithout l xs (without S p.requirement) q w → IsSettledWithout w
      by (StillMet m s) shown = tt
      by StillOpen shown = absurd shown

  pub shown_settled : (S : ℕ → Bool) (q : Question) (r : Reply) → IsShownBy l xs S q r → IsSettledReply r
  shown_settled S q (Met m s) shown = tt
  shown_settled S q (Unmet c) shown = parts_settled (is_in c.taken) q c.parts shown.1
  shown_settled S q LeftOpen shown = absurd shown

settled_parts : (ps : List Part) → AreSettledParts ps ⊎ (¬ (AreSettledParts ps))
settled_parts [] = inl tt
settled_parts (p ∷ ps) = by p.without (settled_parts ps)
  where
    by : (w : Without)
        → AreSettledParts ps ⊎ (¬ (AreSettledParts ps))
        → (IsSettledWithout w × AreSettledParts ps) ⊎ (¬ (IsSettledWithout w × AreSettledParts ps))
    by (StillMet m s) (inl all) = inl (tt, all)
    by (StillMet m s) (inr some) = inr (λ both. some both.1)
    by StillOpen rest = inr (λ both. both.0)

settled_or_not : (r : Reply) → IsSettledReply r ⊎ (¬ (IsSettledReply r))
settled_or_not (Met m s) = inl tt
settled_or_not (Unmet c) = settled_parts c.parts
settled_or_not LeftOpen = inr (λ settled. settled)

-- ---- all answers

abbrev pub AreSettledAt : List Placed → Type 0
AreSettledAt ps = AllByRecursion (λ p. IsSettledReply p.reply) ps

module _ (l : Logic) (xs : List Item) (n : ℕ) where
  none_wrong : IsSpecified l xs
      → (ps : List Placed)
      → AllByRecursion (IsAnswered l xs n) ps
      → AllByRecursion (λ p. ¬ (IsWrongAt l xs p)) ps
  none_wrong specified [] are = tt
  none_wrong specified (p ∷ ps) are =
      (not_wrong l xs n specified p.among p.question p.reply are.0.0 are.0.1, none_wrong specified ps are.1)

  all_shown : (ps : List Placed)
      → AllByRecursion (IsAnswered l xs n) ps
      → AreSettledAt ps
      → AllByRecursion (IsShownAt l xs) ps
  all_shown [] are settled = tt
  all_shown (p ∷ ps) are settled =
      (settled_shown l xs n p.among p.question p.reply are.0.1 settled.0, all_shown ps are.1 settled.1)

  abbrev pub IsFirstOpen : List Placed → ℕ → Type 0
  IsFirstOpen ps line = IsFirst (λ p. ¬ (IsShownAt l xs p)) ps line

  abbrev pub IsSomeOpen : List Placed → Type 0
  IsSomeOpen ps = (¬ (AreSettledAt ps)) × ((line : ℕ) × IsFirstOpen ps line)

  open_here : (p : Placed) (ps : List Placed) → ¬ (IsSettledReply p.reply) → IsSomeOpen (p ∷ ps)
  open_here p ps ne = (
    λ all. ne all.0,
    (
      p.line,
      record {
        before = [];
        first = p;
        after = ps;
        are_all = refl;
        none_before = tt;
        is_so = λ shown. ne (shown_settled l xs p.among p.question p.reply shown);
        is_line = refl;
      },
    ),
  )

  open_later : (p : Placed) (ps : List Placed) → IsShownAt l xs p → IsSomeOpen ps → IsSomeOpen (p ∷ ps)
  open_later p ps shown (ne, (line, is)) = (
    λ all. ne all.1,
    (
      line,
      record {
        before = p ∷ is.before;
        first = is.first;
        after = is.after;
        are_all = ap (λ os. p ∷ os) is.are_all;
        none_before = (λ dark. dark shown, is.none_before);
        is_so = is.is_so;
        is_line = is.is_line;
      },
    ),
  )

  pub first_open : (ps : List Placed) → AllByRecursion (IsAnswered l xs n) ps → AreSettledAt ps ⊎ IsSomeOpen ps
  first_open [] are = inl tt
  first_open (p ∷ ps) are = by (settled_or_not p.reply) (first_open ps are.1)
    where
      by : IsSettledReply p.reply ⊎ (¬ (IsSettledReply p.reply))
          → AreSettledAt ps ⊎ IsSomeOpen ps
          → AreSettledAt (p ∷ ps) ⊎ IsSomeOpen (p ∷ ps)
      by (inr ne) rest = inr (open_here p ps ne)
      by (inl settled) (inl all) = inl (settled, all)
      by (inl settled) (inr some) =
          inr (open_later p ps (settled_shown l xs n p.among p.question p.reply are.0.1 settled) some)

-- what is settled is so with and without the flags of other items, and where it is placed
module _ (xs : List Item) where
  reply_settled : (r : Reply) → IsSettledReply r → IsSettledReply (cleaned_reply xs r)
  reply_settled (Met m s) settled = tt
  reply_settled (Unmet c) settled = settled
  reply_settled LeftOpen settled = settled

  settled_reply : (r : Reply) → IsSettledReply (cleaned_reply xs r) → IsSettledReply r
  settled_reply (Met m s) settled = tt
  settled_reply (Unmet c) settled = settled
  settled_reply LeftOpen settled = settled

  placed_settled : (R : ℕ → Bool) (rs : List Replied) (ks : List ℕ) → AreSettled rs → AreSettledAt (placed R (map (cleaned xs) rs) ks)
  placed_settled R [] [] settled = tt
  placed_settled R [] (k ∷ ks) settled = tt
  placed_settled R (r ∷ rs) [] settled = tt
  placed_settled R (r ∷ rs) (k ∷ ks) settled = (
    reply_settled r.reply settled.0,
    placed_settled (rest_behind R r.question (cleaned_reply xs r.reply)) rs ks settled.1,
  )

  settled_placed : (R : ℕ → Bool) (rs : List Replied) (ks : List ℕ)
      → length ks ≡ length (map (cleaned xs) rs)
      → AreSettledAt (placed R (map (cleaned xs) rs) ks)
      → AreSettled rs
  settled_placed R [] ks told settled = tt
  settled_placed R (r ∷ rs) [] told settled = absurd (omega (arith, told))
  settled_placed R (r ∷ rs) (k ∷ ks) told settled = (
    settled_reply r.reply settled.0,
    settled_placed (rest_behind R r.question (cleaned_reply xs r.reply)) rs ks (omega (arith, told)) settled.1,
  )

-- ---- texts

pub record AreTextsOf (xs : List Item) (rs : List Replied) (text : List ℕ) : Type 0 where
  pub texts : List (List ℕ)
  pub are_texts : AreTexts xs (map (cleaned xs) rs) texts
  pub is_one : text ≡ one_text texts

pub texts_of : (xs : List Item) (rs : List Replied) (text : List ℕ) → AreBlocks xs rs text → AreTextsOf xs rs text
texts_of xs [] text are = record { texts = []; are_texts = tt; is_one = are }
texts_of xs (r ∷ rs) text are =
    let rest = texts_of xs rs are.second are.is_second in
    record {
      texts = are.first ∷ rest.texts;
      are_texts = (block_cleaned xs r are.first are.is_first, rest.are_texts);
      is_one = are.are_both ∙ ap (λ t. are.first ++ t) rest.is_one;
    }

-- ---- the law

module _ (text : List ℕ) (l : Logic) (xs : List Item) (rs : List Replied) (n : ℕ) (is : IsOf text l xs rs)
    (on : GoesOn l xs n everything (with_consistency (requirements xs) (asking xs)) (map (cleaned xs) rs)) where
  document_is : is.document ≡ line_text title_line ++ is.is_document.second
  document_is = is.is_document.are_both ∙ ap (λ t. t ++ is.is_document.second) is.is_document.is_first

  there : first_line (codes "mlsolver answers 1") text ≡ Some (length is.spec)
  there =
      ap (first_line (codes "mlsolver answers 1")) (is.are_both ∙ ap (λ t. is.spec ++ t) document_is)
      ∙ title_behind is.spec is.is_document.second l xs is.is_whole is.is_specification

  found_of : (x : AnswersFinding) → IsFoundIn is.spec is.document x → IsFound text x
  found_of x found =
      let front : take (length is.spec) text ≡ is.spec =
      ap (take (length is.spec)) is.are_both ∙ take_at is.spec is.document (length is.spec) refl in
      let behind : drop (length is.spec) text ≡ is.document =
      ap (drop (length is.spec)) is.are_both ∙ drop_at is.spec is.document (length is.spec) refl in
      found_from text (length is.spec) x there
      (subst (λ t. IsFoundIn t (drop (length is.spec) text) x) (sym front)
      (subst (λ t. IsFoundIn is.spec t x) (sym behind) found))

  abbrev placed_from : List (List ℕ) → List Placed
  placed_from texts = placed everything (map (cleaned xs) rs) (lines_from (1 + line_count is.spec + 1) texts)

  module _ (made : AreTextsOf xs rs is.is_document.is_second.first) where
    checked_as : (x : AnswersFinding)
        → IsVerdict l xs (placed_from made.texts) x
        → IsCheckedAs l xs (1 + line_count is.spec) is.document x
    checked_as x verdict =
        let both = is.is_document.is_second in
        record {
          replies = map (cleaned xs) rs;
          lines = lines_from (1 + line_count is.spec + 1) made.texts;
          are_answers = record {
            texts = made.texts;
            are_all = (on.last, on.leads, on.is_over);
            are_texts = made.are_texts;
            is_text =
                document_is
                ∙ ap (λ t. line_text title_line ++ t)
                (both.are_both
                ∙ ap (λ t. t ++ both.second) made.is_one
                ∙ ap (λ t. one_text made.texts ++ t) both.is_second);
            are_lines = refl;
          };
          is_verdict = verdict;
        }

    found_right : AllByRecursion (IsShownAt l xs) (placed_from made.texts) → IsFound text Right
    found_right shown = found_of Right (is.is_short, (l, xs, is.is_specification, checked_as Right shown))

    found_open : (line : ℕ) → IsVerdict l xs (placed_from made.texts) (OpenAt line) → IsFound text (OpenAt line)
    found_open line verdict =
        found_of (OpenAt line) (is.is_short, (l, xs, is.is_specification, checked_as (OpenAt line) verdict))

    as_found : (AreSettled rs × IsFound text Right) ⊎ ((¬ (AreSettled rs)) × ((line : ℕ) × IsFound text (OpenAt line)))
    as_found = by (first_open l xs n (placed_from made.texts) answered)
      where
        answered : AllByRecursion (IsAnswered l xs n) (placed_from made.texts)
        answered = on.are_answered (lines_from (1 + line_count is.spec + 1) made.texts)

        many : length (lines_from (1 + line_count is.spec + 1) made.texts) ≡ length (map (cleaned xs) rs)
        many = as_many xs (map (cleaned xs) rs) made.texts (1 + line_count is.spec + 1) made.are_texts

        by : AreSettledAt (placed_from made.texts) ⊎ IsSomeOpen l xs n (placed_from made.texts)
            → (AreSettled rs × IsFound text Right) ⊎ ((¬ (AreSettled rs)) × ((line : ℕ) × IsFound text (OpenAt line)))
        by (inl settled) = inl (
          settled_placed xs everything rs (lines_from (1 + line_count is.spec + 1) made.texts) many settled,
          found_right (all_shown l xs n (placed_from made.texts) answered settled),
        )
        by (inr (some, (line, first))) = inr (
          λ settled. some (placed_settled xs everything rs (lines_from (1 + line_count is.spec + 1) made.texts) settled),
          (
            line,
            found_open line (
              none_wrong l xs n (items.specified is.spec l xs is.is_specification) (placed_from made.texts) answered,
              first,
            ),
          ),
        )

pub answers_are_right : AnswersAreRight
answers_are_right text l xs rs n is are =
    as_found text l xs rs n is (all_go l xs n rs (asking_both xs) are)
    (texts_of xs rs is.is_document.is_second.first is.is_document.is_second.is_first)
