-- One thing comes of answers.
--
--   first_once       == one answer at most is the first of which something is true
--   none_first       == and none where it is true of none
--   placed_asked     == answers to questions stay such with their places
--   one_verdict      == of answers to questions of a specification one thing comes at most
use Rattle.std.proofs.Common.{◌≡◌, ℕ, Bool, List, [], ◌∷◌, ◌++◌, refl, sym, ap, subst, ◌∙◌}
use Rattle.std.specs.List.{AllByRecursion}
use Rattle.ml_lists.proofs.Entries.{same_head, same_tail}
use Rattle.ml_front.specs.declared.logic.Logic.{Logic}
use Rattle.ml_spec.specs.Questions.{IsQuestion}
use Rattle.ml_spec.specs.Specification.{IsSpecified}
use Rattle.ml_spec.specs.declared.specification.Item.{Item}
use Rattle.ml_replies.proofs.OneCheck.{one_check}
use Rattle.ml_replies.specs.Replies.{Replied}
use Rattle.ml_answers.specs.Checked.{placed, IsFirst, IsShownAt, IsVerdict, IsWrongAt, Placed}
use Rattle.ml_answers.specs.Due.{rest_behind}
use Rattle.ml_answers.specs.declared.finding.AnswersFinding.{AnswersFinding}
use Rattle.ml_answers.specs.declared.finding.AnswersFinding.TheVariants.{NoDocument, OpenAt, Refused, Right, TooLong, Unreadable, WrongAt}
use Rattle.ml_answers.proofs.Judgable.{IsJudgableReply}
use Rattle.ml_answers.proofs.NeverWrong.{never_both}

-- ---- the first one

module _ (P : Placed → Type 0) where
  abbrev NoneOf : List Placed → Type 0
  NoneOf ps = AllByRecursion (λ p. ¬ (P p)) ps

  firsts_same : (bs cs : List Placed) (a b : Placed) (us vs : List Placed)
      → NoneOf bs
      → NoneOf cs
      → P a
      → P b
      → bs ++ a ∷ us ≡ cs ++ b ∷ vs
      → a ≡ b
  firsts_same [] [] a b us vs none free is so e = same_head a b us vs e
  firsts_same [] (c ∷ cs) a b us vs none free is so e =
      absurd (free.0 (subst P (same_head a c us (cs ++ b ∷ vs) e) is))
  firsts_same (x ∷ bs) [] a b us vs none free is so e =
      absurd (none.0 (subst P (sym (same_head x b (bs ++ a ∷ us) vs e)) so))
  firsts_same (x ∷ bs) (c ∷ cs) a b us vs none free is so e =
      firsts_same bs cs a b us vs none.1 free.1 is so (same_tail x c (bs ++ a ∷ us) (cs ++ b ∷ vs) e)

  pub first_once : (ps : List Placed) (k j : ℕ) → IsFirst P ps k → IsFirst P ps j → k ≡ j
  first_once ps k j x y =
      x.is_line
      ∙ ap (λ p. p.line)
      (firsts_same x.before y.before x.first y.first x.after y.after x.none_before y.none_before x.is_so y.is_so
      (sym x.are_all ∙ y.are_all))
      ∙ sym y.is_line

-- what holds of all answers holds of one of them
one_of : (Q : Placed → Type 0) (before : List Placed) (p : Placed) (after : List Placed)
    → AllByRecursion Q (before ++ p ∷ after)
    → Q p
one_of Q [] p after all = all.0
one_of Q (b ∷ before) p after all = one_of Q before p after all.1

first_has : (P Q : Placed → Type 0) (ps : List Placed) (k : ℕ)
    → (x : IsFirst P ps k)
    → AllByRecursion Q ps
    → Q x.first
first_has P Q ps k x all = one_of Q x.before x.first x.after (subst (AllByRecursion Q) x.are_all all)

-- ---- questions

module _ (xs : List Item) where
  abbrev pub AnswersQuestion : Placed → Type 0
  AnswersQuestion p = IsQuestion xs p.question

  pub placed_asked : (R : ℕ → Bool) (rs : List Replied) (ks : List ℕ)
      → AllByRecursion (IsJudgableReply xs) rs
      → AllByRecursion AnswersQuestion (placed R rs ks)
  placed_asked R [] ks are = tt
  placed_asked R (r ∷ rs) [] are = tt
  placed_asked R (r ∷ rs) (k ∷ ks) are =
      (are.0.0, placed_asked (rest_behind R r.question r.reply) rs ks are.1)

-- ---- what comes of all

module _ (l : Logic) (xs : List Item) (specified : IsSpecified l xs) (ps : List Placed)
    (are : AllByRecursion (AnswersQuestion xs) ps) where
  right_or_wrong : (k : ℕ) → AllByRecursion (IsShownAt l xs) ps → IsFirst (IsWrongAt l xs) ps k → ⊥
  right_or_wrong k shown wrong =
      let p = wrong.first in
      never_both one_check l xs p.question specified
      (first_has (IsWrongAt l xs) (AnswersQuestion xs) ps k wrong are) p.among p.reply
      (first_has (IsWrongAt l xs) (IsShownAt l xs) ps k wrong shown) wrong.is_so

  right_or_open : (k : ℕ) → AllByRecursion (IsShownAt l xs) ps → IsFirst (λ p. ¬ (IsShownAt l xs p)) ps k → ⊥
  right_or_open k shown first =
      first.is_so (first_has (λ p. ¬ (IsShownAt l xs p)) (IsShownAt l xs) ps k first shown)

  wrong_or_none : (k : ℕ) → IsFirst (IsWrongAt l xs) ps k → AllByRecursion (λ p. ¬ (IsWrongAt l xs p)) ps → ⊥
  wrong_or_none k first none =
      first_has (IsWrongAt l xs) (λ p. ¬ (IsWrongAt l xs p)) ps k first none first.is_so

  pub one_verdict : (x y : AnswersFinding) → IsVerdict l xs ps x → IsVerdict l xs ps y → x ≡ y
  one_verdict Right Right a b = refl
  one_verdict Right (WrongAt j) a b = absurd (right_or_wrong j a b)
  one_verdict Right (OpenAt j) a b = absurd (right_or_open j a b.1)
  one_verdict (WrongAt k) Right a b = absurd (right_or_wrong k b a)
  one_verdict (WrongAt k) (WrongAt j) a b = ap WrongAt (first_once (IsWrongAt l xs) ps k j a b)
  one_verdict (WrongAt k) (OpenAt j) a b = absurd (wrong_or_none k a b.0)
  one_verdict (OpenAt k) Right a b = absurd (right_or_open k b a.1)
  one_verdict (OpenAt k) (WrongAt j) a b = absurd (wrong_or_none j b a.0)
  one_verdict (OpenAt k) (OpenAt j) a b = ap OpenAt (first_once (λ p. ¬ (IsShownAt l xs p)) ps k j a.1 b.1)
  one_verdict TooLong y a b = absurd a
  one_verdict (NoDocument k c) y a b = absurd a
  one_verdict (Refused k c r) y a b = absurd a
  one_verdict (Unreadable f) y a b = absurd a
  one_verdict x TooLong a b = absurd b
  one_verdict x (NoDocument k c) a b = absurd b
  one_verdict x (Refused k c r) a b = absurd b
  one_verdict x (Unreadable f) a b = absurd b
