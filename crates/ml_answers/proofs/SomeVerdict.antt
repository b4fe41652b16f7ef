-- Something comes of all answers of a document.
--
--   first_or_none  == of answers of each of which something is decided, one is the first of which it is true, or it is of none
--   all_decided    == of the answers of a document it is decided whether they are shown, and whether they are wrong
--   some_verdict   == so one is wrong first, or none is, and one isn't shown first, or all are
use Rattle.std.proofs.Common.{ℕ, ◌⊎◌, Bool, List, [], ◌∷◌, inl, inr, refl, ap}
use Rattle.std.specs.List.{AllByRecursion}
use Rattle.ml_front.specs.declared.logic.Logic.{Logic}
use Rattle.ml_lists.proofs.Decided.{Decided}
use Rattle.ml_spec.specs.Questions.{IsQuestion}
use Rattle.ml_spec.specs.Specification.{IsSpecified}
use Rattle.ml_spec.specs.declared.question.Question.{Question}
use Rattle.ml_spec.specs.declared.specification.Item.{Item}
use Rattle.ml_replies.proofs.OneCheck.{one_check}
use Rattle.ml_replies.specs.Meeting.{AreWellFormed}
use Rattle.ml_replies.specs.Replies.{Replied, Reply}
use Rattle.ml_answers.specs.Checked as checked
use Rattle.ml_answers.specs.Checked.{placed, AreTexts, IsFirst, IsShownAt, IsShownBy, IsVerdict, IsWrongAt, Placed}
use Rattle.ml_answers.specs.Due.{asked_of, rest_behind}
use Rattle.ml_answers.specs.declared.finding.AnswersFinding.{AnswersFinding}
use Rattle.ml_answers.specs.declared.finding.AnswersFinding.TheVariants.{OpenAt, Right, WrongAt}
use Rattle.ml_answers.specs.declared.judging.Standing.{Standing}
use Rattle.ml_answers.specs.declared.judging.Standing.TheVariants.{Shown, Unsettled, Wrong}
use Rattle.ml_answers.specs.private.Judged.{ComesTo}
use Rattle.ml_answers.proofs.Judgable.{IsJudgableReply}
use Rattle.ml_answers.proofs.NeverWrong.{never_both}
use Rattle.ml_answers.proofs.SomeStanding.{reply_stands}

-- ---- the first one

pub first_or_none : (P Q : Placed → Type 0)
    → ((p : Placed) → Q p → ¬ (P p))
    → (ps : List Placed)
    → AllByRecursion (λ p. P p ⊎ Q p) ps
    → ((line : ℕ) × IsFirst P ps line) ⊎ AllByRecursion Q ps
first_or_none P Q never [] all = inr tt
first_or_none P Q never (p ∷ ps) all = by all.0 (first_or_none P Q never ps all.1)
  where
    by : P p ⊎ Q p
        → ((line : ℕ) × IsFirst P ps line) ⊎ AllByRecursion Q ps
        → ((line : ℕ) × IsFirst P (p ∷ ps) line) ⊎ AllByRecursion Q (p ∷ ps)
    by (inl is) rest =
        inl (
          p.line,
          record {
            before = [];
            first = p;
            after = ps;
            are_all = refl;
            none_before = tt;
            is_so = is;
            is_line = refl;
          },
        )
    by (inr is) (inl (line, found)) =
        inl (
          line,
          record {
            before = p ∷ found.before;
            first = found.first;
            after = found.after;
            are_all = ap (λ rs. p ∷ rs) found.are_all;
            none_before = (never p is, found.none_before);
            is_so = found.is_so;
            is_line = found.is_line;
          },
        )
    by (inr is) (inr rest) = inr (is, rest)

module _ (l : Logic) (xs : List Item) (specified : IsSpecified l xs) (well : AreWellFormed xs) where
  -- ---- what is decided of each

  abbrev pub IsDecidedAt : Placed → Type 0
  IsDecidedAt p = Decided (IsWrongAt l xs p) × Decided (IsShownAt l xs p)

  decided_by : (S : ℕ → Bool) (q : Question) (r : Reply) (s : Standing)
      → IsQuestion xs q
      → ComesTo (IsShownBy l xs S q r) (checked.IsWrong l xs S q r) s
      → Decided (checked.IsWrong l xs S q r) × Decided (IsShownBy l xs S q r)
  decided_by S q r Shown question is =
      (inr (λ wrong. never_both one_check l xs q specified question S r is wrong), inl is)
  decided_by S q r Wrong question is =
      (inl is, inr (λ shown. never_both one_check l xs q specified question S r shown is))
  decided_by S q r Unsettled question is = (inr is.1, inr is.0)

  pub all_decided : (R : ℕ → Bool) (rs : List Replied) (ks : List ℕ) (ts : List (List ℕ))
      → AreTexts xs rs ts
      → AllByRecursion (IsJudgableReply xs) rs
      → AllByRecursion IsDecidedAt (placed R rs ks)
  all_decided R [] ks ts are all = tt
  all_decided R (r ∷ rs) [] ts are all = tt
  all_decided R (r ∷ rs) (k ∷ ks) [] are all = absurd are
  all_decided R (r ∷ rs) (k ∷ ks) (t ∷ ts) are all =
      let S = asked_of R r.question in
      let found = reply_stands l xs r.question specified well all.0.0 S r.reply are.0.second are.0.is_second in (
        decided_by S r.question r.reply found.0 all.0.0 found.1,
        all_decided (rest_behind R r.question r.reply) rs ks ts are.1 all.1,
      )

  -- ---- what comes of all

  wrong_or_not : (ps : List Placed) → AllByRecursion IsDecidedAt ps
      → AllByRecursion (λ p. IsWrongAt l xs p ⊎ (¬ (IsWrongAt l xs p))) ps
  wrong_or_not [] all = tt
  wrong_or_not (p ∷ ps) all = (all.0.0, wrong_or_not ps all.1)

  dark_or_shown : (ps : List Placed) → AllByRecursion IsDecidedAt ps
      → AllByRecursion (λ p. (¬ (IsShownAt l xs p)) ⊎ IsShownAt l xs p) ps
  dark_or_shown [] all = tt
  dark_or_shown (p ∷ ps) all = (by all.0.1, dark_or_shown ps all.1)
    where
      by : Decided (IsShownAt l xs p) → (¬ (IsShownAt l xs p)) ⊎ IsShownAt l xs p
      by (inl shown) = inr shown
      by (inr dark) = inl dark

  pub some_verdict : (ps : List Placed) → AllByRecursion IsDecidedAt ps → (x : AnswersFinding) × IsVerdict l xs ps x
  some_verdict ps all = by (first_or_none (IsWrongAt l xs) (λ p. ¬ (IsWrongAt l xs p)) (λ p right. right) ps (wrong_or_not ps all))
    where
      of_shown : AllByRecursion (λ p. ¬ (IsWrongAt l xs p)) ps
          → ((line : ℕ) × IsFirst (λ p. ¬ (IsShownAt l xs p)) ps line) ⊎ AllByRecursion (IsShownAt l xs) ps
          → (x : AnswersFinding) × IsVerdict l xs ps x
      of_shown right (inl (line, found)) = (OpenAt line, (right, found))
      of_shown right (inr shown) = (Right, shown)

      by : ((line : ℕ) × IsFirst (IsWrongAt l xs) ps line) ⊎ AllByRecursion (λ p. ¬ (IsWrongAt l xs p)) ps
          → (x : AnswersFinding) × IsVerdict l xs ps x
      by (inl (line, found)) = (WrongAt line, found)
      by (inr right) =
          of_shown right
          (first_or_none (λ p. ¬ (IsShownAt l xs p)) (IsShownAt l xs) (λ p shown dark. dark shown) ps (dark_or_shown ps all))
