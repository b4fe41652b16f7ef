-- Each specification has answers.
--
-- Each conflict of requirements alone has a member, so fewer and fewer are left.
--
--   all_asked      == the questions of a specification are questions of its items
--   some_conflicts == whether requirements can be met together has an answer, and so has what is asked of the rest
--   some_replies   == the law
use Rattle.std.proofs.Common.{◌≡◌, ℕ, zero, suc, ◌+◌, ◌<◌, ◌≤◌, ◌^◌, ◌&&◌, Bool, true, false, not, cond, List, [], ◌∷◌, ◌++◌, length, map, Some, slice_get, refl, sym, ap, ◌∙◌, arith}
use Rattle.std.specs.List.{AllByRecursion}
use Rattle.std.proofs.lemmas.Bool.{and_parts}
use Rattle.ml_front.specs.declared.logic.Logic.{Logic}
use Rattle.ml_front.specs.declared.problem.AnyFormula.{AnyFormula}
use Rattle.ml_spec.specs.Joined.{requirements}
use Rattle.ml_spec.specs.Kinds.{is_requirement}
use Rattle.ml_spec.specs.Questions.{asked_by, asking, asking_from, is_in, IsQuestion}
use Rattle.ml_spec.specs.Specification.{IsSpecified}
use Rattle.ml_spec.specs.declared.question.Question.{Question}
use Rattle.ml_spec.specs.declared.question.Question.TheVariants.{Asks, Consistent, Rest}
use Rattle.ml_spec.specs.declared.specification.Item.{Item}
use Rattle.ml_replies.specs.Laws.{SomeReplies}
use Rattle.ml_replies.specs.Meeting.{beside, everything, AreWellFormed}
use Rattle.ml_replies.specs.Replies.{AreConflicts, AreOfAll, Core, IsCore, IsReply, LeftOpen, Met, Replied, Reply, Unmet}
use Rattle.ml_replies.proofs.Conflicts.{not_empty}
use Rattle.ml_replies.proofs.SomeReply.{some_reply}
use Rattle.ml_replies.proofs.Taken.{count, count_less}

-- ---- questions

asking_are : (xs : List Item) (n : ℕ) (ys : List Item)
    → ((k : ℕ) → slice_get ys k ≡ slice_get xs (n + k))
    → AllByRecursion (IsQuestion xs) (asking_from n ys)
asking_are xs n [] same = tt
asking_are xs n (y ∷ ys) same = by (is_requirement y.kind) refl (asking_are xs (n + 1) ys later)
  where
    later : (k : ℕ) → slice_get ys k ≡ slice_get xs (n + 1 + k)
    later k = let e : n + suc k ≡ n + 1 + k = omega arith in same (suc k) ∙ ap (slice_get xs) e

    here : slice_get xs n ≡ Some y
    here = let e : n + 0 ≡ n = omega arith in sym (same 0 ∙ ap (slice_get xs) e)

    by : (b : Bool) → is_requirement y.kind ≡ b
        → AllByRecursion (IsQuestion xs) (asking_from (n + 1) ys)
        → AllByRecursion (IsQuestion xs) (cond b (asking_from (n + 1) ys) (Asks n ∷ asking_from (n + 1) ys))
    by true e rest = rest
    by false e rest = ((y, here, e), rest)

pub all_asked : (xs : List Item) → AllByRecursion (IsQuestion xs) (asking xs)
all_asked xs = asking_are xs 0 xs (λ k. let e : k ≡ 0 + k = omega arith in ap (slice_get xs) e)

-- ---- the rest

pub rest_less : (l : Logic) (xs : List Item) (n : ℕ) (S : ℕ → Bool) (q : Question) (c : Core)
    → asked_by xs q ≡ []
    → IsCore l xs n S q c
    → count (beside S (is_in c.taken)) (length xs) < count S (length xs)
rest_less l xs n S q c nothing core =
    let member = not_empty l xs n S q c nothing core in
    let T = is_in c.taken in
    count_less S (beside S T) (length xs) member.0 (λ j left. (and_parts (S j) (not (T j)) left).0) member.1
    (core.are_among member.0 member.2) (out (S member.0) (T member.0) member.2)
  where
    out : (a b : Bool) → b ≡ true → (a && not b) ≡ false
    out true true e = refl
    out false true e = refl
    out true false e = sym e
    out false false e = refl

module _ (l : Logic) (xs : List Item) (n : ℕ) (small : n < 2 ^ 32) (specified : IsSpecified l xs) (well : AreWellFormed xs) where
  abbrev Conflicts : (ℕ → Bool) → Question → Type 0
  Conflicts S q = (rs : List Replied) × AreConflicts l xs n S q rs

  step : (S : ℕ → Bool) (q : Question)
      → asked_by xs q ≡ []
      → ((T : ℕ → Bool) → count T (length xs) < count S (length xs) → Conflicts T Rest)
      → (r : Reply)
      → IsReply l xs n S q r
      → Conflicts S q
  step S q nothing again (Met m s) is = (record { question = q; reply = Met m s } ∷ [], (refl, is, refl))
  step S q nothing again LeftOpen is = (record { question = q; reply = LeftOpen } ∷ [], (refl, is, refl))
  step S q nothing again (Unmet c) is =
      let rest = again (beside S (is_in c.taken)) (rest_less l xs n S q c nothing is) in
      (record { question = q; reply = Unmet c } ∷ rest.0, (refl, is, rest.1))

  some_conflicts : (fuel : ℕ) (S : ℕ → Bool) (q : Question)
      → IsQuestion xs q
      → asked_by xs q ≡ []
      → count S (length xs) ≤ fuel
      → Conflicts S q
  some_conflicts zero S q is nothing few =
      let r = some_reply l xs n S q small specified well is in
      step S q nothing (λ T less. absurd (omega (arith, few, less))) r.0 r.1
  some_conflicts (suc fuel) S q is nothing few =
      let r = some_reply l xs n S q small specified well is in
      step S q nothing (λ T less. some_conflicts fuel T Rest tt refl (omega (arith, few, less))) r.0 r.1

  of_all : (fs : List AnyFormula) → (rs : List Replied) × AreOfAll l xs n fs rs
  of_all [] = ([], refl)
  of_all (f ∷ fs) = some_conflicts (count everything (length xs)) everything Consistent tt refl (omega arith)

  -- ---- the further questions

  record Others (qs : List Question) : Type 0 where
    replies : List Replied
    are_questions : map (λ r. r.question) replies ≡ qs
    are_answers : AllByRecursion (λ r. IsReply l xs n everything r.question r.reply) replies

  others : (qs : List Question) → AllByRecursion (IsQuestion xs) qs → Others qs
  others [] are = record { replies = []; are_questions = refl; are_answers = tt }
  others (q ∷ qs) are =
      let first = some_reply l xs n everything q small specified well are.0 in
      let rest = others qs are.1 in
      record {
        replies = record { question = q; reply = first.0 } ∷ rest.replies;
        are_questions = ap (λ rs. q ∷ rs) rest.are_questions;
        are_answers = (first.1, rest.are_answers);
      }

pub some_replies : SomeReplies
some_replies l xs n small specified well =
    let conflicts = of_all l xs n small specified well (requirements xs) in
    let rest = others l xs n small specified well (asking xs) (all_asked xs) in (
      conflicts.0 ++ rest.replies,
      record {
        conflicts = conflicts.0;
        others = rest.replies;
        are_both = refl;
        are_conflicts = conflicts.1;
        are_questions = rest.are_questions;
        are_answers = rest.are_answers;
      },
    )
