-- What comes of answers, one after the other.
--
--   worse_both       == of two parts together comes the worse
--   parts_begin, parts_more == of parts, one by one
--   AreJudgedTo      == what is known behind the first answers
--   judged_begin, judged_shown, judged_open == it stays so
--   wrong_at, right_at, open_at == what comes of all
use Rattle.std.proofs.Common.{◌≡◌, ℕ, ◌+◌, ◌≤◌, ◌⊎◌, Bool, List, [], ◌∷◌, ◌++◌, Option, None, Some, length, drop, inl, inr, refl, sym, ap, subst, ◌∙◌}
use Rattle.std.specs.List.{AllByRecursion}
use Rattle.std.proofs.lemmas.List.{append-nil, append_assoc, drop_all}
use Rattle.ml_front.specs.declared.logic.Logic.{Logic}
use Rattle.ml_spec.specs.declared.question.Question.{Question}
use Rattle.ml_spec.specs.declared.specification.Item.{Item}
use Rattle.ml_replies.specs.Answers.{reply_of}
use Rattle.ml_replies.specs.Meeting.{everything, without}
use Rattle.ml_replies.specs.Replies.{Part}
use Rattle.ml_answers.specs.Checked.{placed, AreShown, IsFirst, IsShownAt, IsShownWithout, IsVerdict, IsWrongAt, IsWrongWithout, Placed, SomeWrong}
use Rattle.ml_answers.specs.Due.{asked_of, rest_behind}
use Rattle.ml_answers.specs.declared.finding.AnswersFinding.TheVariants.{OpenAt, Right, WrongAt}
use Rattle.ml_answers.specs.declared.judging.Standing.{Standing}
use Rattle.ml_answers.specs.declared.judging.Standing.TheVariants.{Shown, Unsettled, Wrong}
use Rattle.ml_answers.specs.declared.stated.Stated.{Stated}
use Rattle.ml_answers.specs.private.Judged.{worse, AreShownTo, ComesTo, IsJudgedTo}
use Rattle.ml_answers.specs.Stated.{lines_of, replies_of}
use Rattle.ml_answers.specs.private.Words.{Agrees}
use Rattle.ml_answers.proofs.SameSets.{comes_same}

-- ---- parts

pub worse_both : (P Q W V : Type 0) (s t : Standing)
    → (P → W → ⊥)
    → (Q → V → ⊥)
    → ComesTo P W s
    → ComesTo Q V t
    → ComesTo (P × Q) (W ⊎ V) (worse s t)
worse_both P Q W V s t never no_other one other = by s t one other
  where
    neither : (W → ⊥) → (V → ⊥) → W ⊎ V → ⊥
    neither no_w no_v (inl w) = no_w w
    neither no_w no_v (inr v) = no_v v

    by : (s t : Standing) → ComesTo P W s → ComesTo Q V t → ComesTo (P × Q) (W ⊎ V) (worse s t)
    by Wrong t one other = inl one
    by Shown Wrong one other = inr other
    by Unsettled Wrong one other = inr other
    by Shown Shown one other = (one, other)
    by Shown Unsettled one other = (λ both. other.0 both.1, neither (never one) other.1)
    by Unsettled Shown one other = (λ both. one.0 both.0, neither one.1 (no_other other))
    by Unsettled Unsettled one other = (λ both. one.0 both.0, neither one.1 other.1)

module _ (l : Logic) (xs : List Item) (S : ℕ → Bool) (q : Question) where
  abbrev pub PartsComeTo : List Part → Standing → Type 0
  PartsComeTo ps s = ComesTo (AreShown l xs S q ps) (SomeWrong l xs S q ps) s

  abbrev pub NeverParts : Type 0
  NeverParts = (ps : List Part) → AreShown l xs S q ps → SomeWrong l xs S q ps → ⊥

  pub parts_begin : PartsComeTo [] Shown
  parts_begin = tt

  shown_more : (ps : List Part) (p : Part) → AreShown l xs S q (ps ++ p ∷ [])
      → AreShown l xs S q ps × IsShownWithout l xs (without S p.requirement) q p.without
  shown_more [] p shown = (tt, shown.0)
  shown_more (r ∷ ps) p shown = let rest = shown_more ps p shown.1 in ((shown.0, rest.0), rest.1)

  more_shown : (ps : List Part) (p : Part) → AreShown l xs S q ps
      → IsShownWithout l xs (without S p.requirement) q p.without
      → AreShown l xs S q (ps ++ p ∷ [])
  more_shown [] p shown last = (last, tt)
  more_shown (r ∷ ps) p shown last = (shown.0, more_shown ps p shown.1 last)

  wrong_more : (ps : List Part) (p : Part) → SomeWrong l xs S q (ps ++ p ∷ [])
      → SomeWrong l xs S q ps ⊎ IsWrongWithout l xs (without S p.requirement) q p.without
  wrong_more [] p (inl fails) = inr fails
  wrong_more [] p (inr fails) = absurd fails
  wrong_more (r ∷ ps) p (inl fails) = inl (inl fails)
  wrong_more (r ∷ ps) p (inr fails) = by (wrong_more ps p fails)
    where
      by : SomeWrong l xs S q ps ⊎ IsWrongWithout l xs (without S p.requirement) q p.without
          → SomeWrong l xs S q (r ∷ ps) ⊎ IsWrongWithout l xs (without S p.requirement) q p.without
      by (inl fails) = inl (inr fails)
      by (inr fails) = inr fails

  more_wrong : (ps : List Part) (p : Part)
      → SomeWrong l xs S q ps ⊎ IsWrongWithout l xs (without S p.requirement) q p.without
      → SomeWrong l xs S q (ps ++ p ∷ [])
  more_wrong [] p (inl fails) = absurd fails
  more_wrong [] p (inr fails) = inl fails
  more_wrong (r ∷ ps) p (inl (inl fails)) = inl fails
  more_wrong (r ∷ ps) p (inl (inr fails)) = inr (more_wrong ps p (inl fails))
  more_wrong (r ∷ ps) p (inr fails) = inr (more_wrong ps p (inr fails))

  last_never : (p : Part)
      → NeverParts
      → IsShownWithout l xs (without S p.requirement) q p.without
      → IsWrongWithout l xs (without S p.requirement) q p.without
      → ⊥
  last_never p never shown fails = never (p ∷ []) (shown, tt) (inl fails)

  pub parts_more : (ps : List Part) (p : Part) (s t : Standing)
      → NeverParts
      → PartsComeTo ps s
      → ComesTo (IsShownWithout l xs (without S p.requirement) q p.without)
      (IsWrongWithout l xs (without S p.requirement) q p.without) t
      → PartsComeTo (ps ++ p ∷ []) (worse s t)
  parts_more ps p s t never one other =
      comes_same
      (AreShown l xs S q ps × IsShownWithout l xs (without S p.requirement) q p.without)
      (AreShown l xs S q (ps ++ p ∷ []))
      (SomeWrong l xs S q ps ⊎ IsWrongWithout l xs (without S p.requirement) q p.without)
      (SomeWrong l xs S q (ps ++ p ∷ []))
      (worse s t)
      (λ both. more_shown ps p both.0 both.1)
      (shown_more ps p)
      (more_wrong ps p)
      (wrong_more ps p)
      (worse_both (AreShown l xs S q ps) (IsShownWithout l xs (without S p.requirement) q p.without) (SomeWrong l xs S q ps)
      (IsWrongWithout l xs (without S p.requirement) q p.without) s t (never ps) (last_never p never) one other)

-- ---- all answers

-- behind the first n answers, of which none is wrong
pub record AreJudgedTo (l : Logic) (xs : List Item) (stated : List Stated) (n : ℕ) (among : List Bool) (first : Option ℕ) : Type 0 where
  pub front : List Placed
  pub left : ℕ → Bool
  pub agrees : Agrees xs left among
  pub are_all : placed everything (replies_of stated) (lines_of stated)
      ≡ front ++ placed left (replies_of (drop n stated)) (lines_of (drop n stated))
  pub are_judged : IsJudgedTo l xs front first
  pub told : length among ≡ length xs

pub judged_begin : (l : Logic) (xs : List Item) (stated : List Stated) (among : List Bool)
    → Agrees xs everything among
    → length among ≡ length xs
    → AreJudgedTo l xs stated 0 among None
judged_begin l xs stated among agrees told = record {
  front = [];
  left = everything;
  agrees = agrees;
  are_all = refl;
  are_judged = (tt, tt);
  told = told;
}

all_more : (P : Placed → Type 0) (ps : List Placed) (p : Placed) → AllByRecursion P ps → P p → AllByRecursion P (ps ++ p ∷ [])
all_more P [] p all last = (last, tt)
all_more P (r ∷ ps) p all last = (all.0, all_more P ps p all.1 last)

first_more : (P : Placed → Type 0) (ps : List Placed) (p : Placed) (line : ℕ) → IsFirst P ps line → IsFirst P (ps ++ p ∷ []) line
first_more P ps p line is = record {
  before = is.before;
  first = is.first;
  after = is.after ++ p ∷ [];
  are_all = ap (λ rs. rs ++ p ∷ []) is.are_all ∙ append_assoc is.before (is.first ∷ is.after) (p ∷ []);
  none_before = is.none_before;
  is_so = is.is_so;
  is_line = is.is_line;
}

not_not : (l : Logic) (xs : List Item) (ps : List Placed)
    → AllByRecursion (IsShownAt l xs) ps
    → AllByRecursion (λ p. ¬ (¬ (IsShownAt l xs p))) ps
not_not l xs [] all = tt
not_not l xs (p ∷ ps) all = (λ ne. ne all.0, not_not l xs ps all.1)

module _ (l : Logic) (xs : List Item) (stated : List Stated) (n : ℕ) (among later : List Bool) (first : Option ℕ) (a : Stated)
    (is : AreJudgedTo l xs stated n among first)
    (is_next : drop n stated ≡ a ∷ drop (n + 1) stated)
    (told : length later ≡ length among)
    (agrees : Agrees xs (rest_behind is.left a.question (reply_of a.statement)) later) where
  abbrev pub here : Placed
  here = record {
    line = a.line;
    among = asked_of is.left a.question;
    question = a.question;
    reply = reply_of a.statement;
  }

  abbrev pub behind : List Placed
  behind =
      placed (rest_behind is.left a.question (reply_of a.statement)) (replies_of (drop (n + 1) stated))
      (lines_of (drop (n + 1) stated))

  all_here : placed everything (replies_of stated) (lines_of stated) ≡ is.front ++ here ∷ behind
  all_here =
      is.are_all
      ∙ ap (λ zs. is.front ++ placed is.left (replies_of zs) (lines_of zs)) is_next

  with_judged : (now : Option ℕ) → IsJudgedTo l xs (is.front ++ here ∷ []) now → AreJudgedTo l xs stated (n + 1) later now
  with_judged now judged = record {
    front = is.front ++ here ∷ [];
    left = rest_behind is.left a.question (reply_of a.statement);
    agrees = agrees;
    are_all = all_here ∙ sym (append_assoc is.front (here ∷ []) behind);
    are_judged = judged;
    told = told ∙ is.told;
  }

  pub judged_shown : IsShownAt l xs here → ¬ (IsWrongAt l xs here) → AreJudgedTo l xs stated (n + 1) later first
  judged_shown shown right = with_judged first (
    all_more (λ p. ¬ (IsWrongAt l xs p)) is.front here is.are_judged.0 right,
    by first is.are_judged.1,
  )
    where
      by : (now : Option ℕ) → AreShownTo l xs is.front now → AreShownTo l xs (is.front ++ here ∷ []) now
      by None all = all_more (IsShownAt l xs) is.front here all shown
      by (Some line) so = first_more (λ p. ¬ (IsShownAt l xs p)) is.front here line so

  pub judged_open : ¬ (IsShownAt l xs here)
      → ¬ (IsWrongAt l xs here)
      → (now : Option ℕ)
      → ((line : ℕ) → first ≡ Some line → now ≡ Some line)
      → (first ≡ None → now ≡ Some a.line)
      → AreJudgedTo l xs stated (n + 1) later now
  judged_open dark right now kept new = with_judged now (
    all_more (λ p. ¬ (IsWrongAt l xs p)) is.front here is.are_judged.0 right,
    by first is.are_judged.1 kept new,
  )
    where
      by : (before : Option ℕ)
          → AreShownTo l xs is.front before
          → ((line : ℕ) → before ≡ Some line → now ≡ Some line)
          → (before ≡ None → now ≡ Some a.line)
          → AreShownTo l xs (is.front ++ here ∷ []) now
      by (Some line) so kept new =
          subst (AreShownTo l xs (is.front ++ here ∷ [])) (sym (kept line refl))
          (first_more (λ p. ¬ (IsShownAt l xs p)) is.front here line so)
      by None all kept new =
          subst (AreShownTo l xs (is.front ++ here ∷ [])) (sym (new refl))
          (record {
            before = is.front;
            first = here;
            after = [];
            are_all = refl;
            none_before = not_not l xs is.front all;
            is_so = dark;
            is_line = refl;
          })

  pub wrong_at : IsWrongAt l xs here
      → IsVerdict l xs (placed everything (replies_of stated) (lines_of stated)) (WrongAt a.line)
  wrong_at wrong =
      subst (λ ps. IsVerdict l xs ps (WrongAt a.line)) (sym all_here)
      (record {
        before = is.front;
        first = here;
        after = behind;
        are_all = refl;
        none_before = is.are_judged.0;
        is_so = wrong;
        is_line = refl;
      })

module _ (l : Logic) (xs : List Item) (stated : List Stated) (n : ℕ) (among : List Bool) (first : Option ℕ)
    (is : AreJudgedTo l xs stated n among first) (past : length stated ≤ n) where
  whole : placed everything (replies_of stated) (lines_of stated) ≡ is.front
  whole =
      is.are_all
      ∙ ap (λ zs. is.front ++ placed is.left (replies_of zs) (lines_of zs)) (drop_all n stated past)
      ∙ append-nil is.front

  pub right_at : first ≡ None
      → IsVerdict l xs (placed everything (replies_of stated) (lines_of stated)) Right
  right_at none =
      subst (λ ps. IsVerdict l xs ps Right) (sym whole)
      (subst (AreShownTo l xs is.front) none is.are_judged.1)

  pub open_at : (line : ℕ)
      → first ≡ Some line
      → IsVerdict l xs (placed everything (replies_of stated) (lines_of stated)) (OpenAt line)
  open_at line some =
      subst (λ ps. IsVerdict l xs ps (OpenAt line)) (sym whole)
      (is.are_judged.0, subst (AreShownTo l xs is.front) some is.are_judged.1)
