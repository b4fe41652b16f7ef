-- Answers to the questions of a specification, in order.
--
--   next_asks, next_none == the questions of items, with one more
--   one_answered  == one more is answered
--   some_required == a specification has requirements, or none
--   lines_begin, lines_go_on, lines_end == whether requirements can be met together, and what is asked of the rest, line by
--                                          line
--   fewer_left    == behind a conflict fewer are left
--   all_replies   == these lines and the answers to the further questions are the answers
use Rattle.std.proofs.Common.{◌≡◌, ℕ, suc, ◌+◌, ◌<◌, Bool, true, false, ◌||◌, cond, List, [], ◌∷◌, ◌++◌, None, Some, filter, get_or, length, map, replicate, take, refl, sym, ap, subst, ◌∙◌, append_assoc, arith, length-take}
use Rattle.std.specs.List.{list_any, AllByRecursion}
use Rattle.std.specs.Global.{Vec}
use Rattle.std.proofs.lemmas.List.{append-nil, map-append, take_more}
use Rattle.ml_lists.proofs.AllOf.{all_last}
use Rattle.ml_front.specs.declared.logic.Logic.{Logic}
use Rattle.ml_front.specs.declared.problem.AnyFormula.{AnyFormula}
use Rattle.ml_spec.specs.Joined.{requirements}
use Rattle.ml_spec.specs.Kinds.{is_requirement}
use Rattle.ml_spec.specs.Questions.{asked_by, asking, asking_from, is_in, IsQuestion}
use Rattle.ml_spec.specs.declared.question.Question.{Question}
use Rattle.ml_spec.specs.declared.question.Question.TheVariants as question
use Rattle.ml_spec.specs.declared.specification.Item.{Item}
use Rattle.ml_replies.specs.Meeting.{everything}
use Rattle.ml_replies.specs.Replies.{AreBehind, AreConflicts, AreOfAll, AreReplies, IsReply, Replied}
use Rattle.ml_replies.proofs.Conflicts.{conflicts_same, reply_same}
use Rattle.ml_replies.proofs.SomeReplies.{rest_less}
use Rattle.ml_replies.proofs.Taken.{all_told, count}
use Rattle.ml_replies.specs.Answers.{core_of, replied_of, reply_of}
use Rattle.ml_replies.specs.declared.answer.Answer.{Answer}
use Rattle.ml_replies.specs.declared.answer.Answer.TheVariants as answer
use Rattle.ml_replies.specs.declared.answer.Answered.{Answered}
use Rattle.ml_ask.specs.declared.asked.Asked.{Asked}
use Rattle.ml_ask.specs.private.Steps.{AreAnswered, IsAdded, IsAnswerTo, IsRestOf}

-- ---- the questions of items

asking_more : (n : ℕ) (xs : List Item) (x : Item)
    → asking_from n (xs ++ x ∷ [])
    ≡ asking_from n xs ++ cond (is_requirement x.kind) [] (question.Asks (n + length xs) ∷ [])
asking_more n [] x =
    let same : n ≡ n + 0 = omega arith in ap (λ k. cond (is_requirement x.kind) [] (question.Asks k ∷ [])) same
asking_more n (y ∷ ys) x =
    by (is_requirement y.kind) (asking_from (n + 1) (ys ++ x ∷ [])) (asking_from (n + 1) ys)
    (asking_more (n + 1) ys x
    ∙ ap (λ k. asking_from (n + 1) ys ++ cond (is_requirement x.kind) [] (question.Asks k ∷ [])) same)
  where
    same : n + 1 + length ys ≡ n + suc (length ys)
    same = omega arith

    by : (b : Bool) (whole rest : List Question)
        → whole ≡ rest ++ cond (is_requirement x.kind) [] (question.Asks (n + suc (length ys)) ∷ [])
        → cond b whole (question.Asks n ∷ whole)
        ≡ cond b rest (question.Asks n ∷ rest) ++ cond (is_requirement x.kind) [] (question.Asks (n + suc (length ys)) ∷ [])
    by true whole rest is = is
    by false whole rest is = ap (λ qs. question.Asks n ∷ qs) is

module _ (xs : List Item) (i : ℕ) (x : Item) (within : i < length xs) (is : x ≡ get_or xs i x) where
  next : asking_from 0 (take (i + 1) xs) ≡ asking_from 0 (take i xs) ++ cond (is_requirement x.kind) [] (question.Asks i ∷ [])
  next =
      let front = take_more xs i x within ∙ ap (λ y. take i xs ++ y ∷ []) (sym is) in
      let number : 0 + length (take i xs) ≡ i = omega (arith, length-take i xs) in
      ap (asking_from 0) front
      ∙ asking_more 0 (take i xs) x
      ∙ ap (λ k. asking_from 0 (take i xs) ++ cond (is_requirement x.kind) [] (question.Asks k ∷ [])) number

  pub next_asks : is_requirement x.kind ≡ false → asking_from 0 (take (i + 1) xs) ≡ asking_from 0 (take i xs) ++ question.Asks i ∷ []
  next_asks asks = next ∙ ap (λ b. asking_from 0 (take i xs) ++ cond b [] (question.Asks i ∷ [])) asks

  pub next_none : is_requirement x.kind ≡ true → asking_from 0 (take (i + 1) xs) ≡ asking_from 0 (take i xs)
  next_none required =
      next
      ∙ ap (λ b. asking_from 0 (take i xs) ++ cond b [] (question.Asks i ∷ [])) required
      ∙ append-nil (asking_from 0 (take i xs))

-- ---- their answers

module _ (l : Logic) (xs : List Item) (n : ℕ) where
  abbrev IsAnswered : Replied → Type 0
  IsAnswered r = IsReply l xs n everything r.question r.reply

  pub none_answered : (old : List Answered) → AreAnswered l xs n [] old old
  none_answered old = record { others = []; are_added = sym (append-nil old); are_questions = refl; are_answers = tt }

  pub one_answered : (qs : List Question) (old new : List Answered) (a : Answered) (q : Question) (all : List Bool)
      → AreAnswered l xs n qs old new
      → a.question ≡ q
      → all ≡ replicate (length xs) true
      → IsReply l xs n (is_in all) q (reply_of a.answer)
      → AreAnswered l xs n (qs ++ q ∷ []) old (new ++ a ∷ [])
  one_answered qs old new a q all so is are told = record {
    others = so.others ++ a ∷ [];
    are_added = ap (λ os. os ++ a ∷ []) so.are_added ∙ append_assoc old so.others (a ∷ []);
    are_questions = ap (map (λ (r : Replied). r.question)) (map-append replied_of so.others (a ∷ []))
        ∙ map-append (λ (r : Replied). r.question) (map replied_of so.others) (replied_of a ∷ [])
        ∙ ap (λ ps. ps ++ a.question ∷ []) so.are_questions
        ∙ ap (λ p. qs ++ p ∷ []) is;
    are_answers = subst (AllByRecursion IsAnswered) (sym (map-append replied_of so.others (a ∷ [])))
        (all_last IsAnswered (map replied_of so.others) (replied_of a) so.are_answers
        (subst (λ p. IsReply l xs n everything p (reply_of a.answer)) (sym is)
        (reply_same l xs n (is_in all) everything q (reply_of a.answer) (all_told (length xs) all are) told)));
  }

  -- ---- whether requirements can be met together

  pub of_none : (rs : List Replied)
      → list_any (λ (x : Item). is_requirement x.kind) xs ≡ false
      → rs ≡ []
      → AreOfAll l xs n (requirements xs) rs
  of_none rs none is = subst (λ fs. AreOfAll l xs n fs rs) (sym (no_requirements xs none)) is
    where
      no_requirements : (ys : List Item) → list_any (λ (x : Item). is_requirement x.kind) ys ≡ false → requirements ys ≡ []
      no_requirements [] e = refl
      no_requirements (y ∷ ys) e = by (is_requirement y.kind) e (no_requirements ys)
        where
          by : (b : Bool) → (b || list_any (λ (x : Item). is_requirement x.kind) ys) ≡ false
              → (list_any (λ (x : Item). is_requirement x.kind) ys ≡ false → requirements ys ≡ [])
              → map (λ (x : Item). x.formula)
              (cond b (y ∷ filter (λ (x : Item). is_requirement x.kind) ys) (filter (λ (x : Item). is_requirement x.kind) ys))
              ≡ []
          by true f again = let wrong : true ≡ false = f in absurd (cc)
          by false f again = again f

  pub of_some : (rs : List Replied)
      → list_any (λ (x : Item). is_requirement x.kind) xs ≡ true
      → AreConflicts l xs n everything question.Consistent rs
      → AreOfAll l xs n (requirements xs) rs
  of_some rs some are = by (requirements xs) (requirements_there xs some)
    where
      requirements_there : (ys : List Item) → list_any (λ (x : Item). is_requirement x.kind) ys ≡ true → ¬ (requirements ys ≡ [])
      requirements_there [] e = let wrong : false ≡ true = e in absurd (cc)
      requirements_there (y ∷ ys) e = go (is_requirement y.kind) e (requirements_there ys)
        where
          go : (b : Bool) → (b || list_any (λ (x : Item). is_requirement x.kind) ys) ≡ true
              → (list_any (λ (x : Item). is_requirement x.kind) ys ≡ true → ¬ (requirements ys ≡ []))
              → ¬ (map (λ (x : Item). x.formula)
              (cond b (y ∷ filter (λ (x : Item). is_requirement x.kind) ys) (filter (λ (x : Item). is_requirement x.kind) ys))
              ≡ [])
          go true f again = λ none. cc
          go false f again = again f

      by : (fs : List AnyFormula) → ¬ (fs ≡ []) → AreOfAll l xs n fs rs
      by [] some_one = absurd (some_one refl)
      by (f ∷ fs) some_one = are

  -- what is known while lines are added: whatever answers the next one, behind these it answers all
  pub record AreLines (left : List Bool) (q : Question) (answers : List Answered) : Type 0 where
    pub are_told : length left ≡ length xs
    pub asks_nothing : asked_by xs q ≡ []
    pub is_question : IsQuestion xs q
    pub so_far : (rs : List Replied)
        → AreConflicts l xs n (is_in left) q rs
        → AreConflicts l xs n everything question.Consistent (map replied_of answers ++ rs)

  pub lines_begin : (all : List Bool) (answers : List Answered)
      → length all ≡ length xs
      → all ≡ replicate (length xs) true
      → answers ≡ []
      → AreLines all question.Consistent answers
  lines_begin all answers told are none = record {
    are_told = told;
    asks_nothing = refl;
    is_question = tt;
    so_far = λ rs so.
        subst (λ (os : List Answered). AreConflicts l xs n everything question.Consistent (map replied_of os ++ rs)) (sym none)
        (conflicts_same l xs n (is_in all) everything question.Consistent rs (all_told (length xs) all are) so);
  }

  -- one more line, and those behind it
  added_line : (left : List Bool) (q : Question) (old new : List Answered) (a : Answered) (rs : List Replied)
      → AreLines left q old
      → new ≡ old ++ a ∷ []
      → a.question ≡ q
      → IsReply l xs n (is_in left) q (reply_of a.answer)
      → AreBehind l xs n (is_in left) (reply_of a.answer) rs
      → AreConflicts l xs n everything question.Consistent (map replied_of new ++ rs)
  added_line left q old new a rs so added is told behind =
      subst (AreConflicts l xs n everything question.Consistent) (sym whole) (so.so_far (replied_of a ∷ rs) (is, told, behind))
    where
      whole : map replied_of new ++ rs ≡ map replied_of old ++ (replied_of a ∷ rs)
      whole =
          ap (λ (os : List Answered). map replied_of os ++ rs) added
          ∙ ap (λ os. os ++ rs) (map-append replied_of old (a ∷ []))
          ∙ append_assoc (map replied_of old) (replied_of a ∷ []) rs

pub lines_end : (a : Asked) (old new : List Answered)
    → AreLines a.specification.now.logic a.specification.now.items.items a.limit a.among.now a.question old
    → IsAdded a old new None
    → AreConflicts a.specification.now.logic a.specification.now.items.items a.limit everything question.Consistent
    (map replied_of new)
lines_end a old new so added =
    subst (AreConflicts a.specification.now.logic a.specification.now.items.items a.limit everything question.Consistent)
    (append-nil (map replied_of new))
    (added_line a.specification.now.logic a.specification.now.items.items a.limit a.among.now a.question old new
    added.answered [] so added.is_added added.is_question added.is_answer (by added.answered.answer added.is_rest))
  where
    by : (x : Answer) → IsRestOf a x None
        → AreBehind a.specification.now.logic a.specification.now.items.items a.limit (is_in a.among.now) (reply_of x) []
    by (answer.Yes m) rest = refl
    by (answer.No c) rest = absurd rest
    by answer.Open rest = refl

module _ (a : Asked) (old new : List Answered) (left : Vec Bool)
    (so : AreLines a.specification.now.logic a.specification.now.items.items a.limit a.among.now a.question old)
    (added : IsAdded a old new (Some left)) where
  told_rest : (x : Answer) → IsRestOf a x (Some left) → length left.items ≡ length a.specification.now.items.items
  told_rest (answer.Yes m) rest = absurd rest
  told_rest (answer.No c) rest = rest.are_told
  told_rest answer.Open rest = absurd rest

  behind_rest : (x : Answer) → IsRestOf a x (Some left) → (rs : List Replied)
      → AreConflicts a.specification.now.logic a.specification.now.items.items a.limit (is_in left.items) question.Rest rs
      → AreBehind a.specification.now.logic a.specification.now.items.items a.limit (is_in a.among.now) (reply_of x) rs
  behind_rest (answer.Yes m) rest rs are = absurd rest
  behind_rest (answer.No c) rest rs are =
      subst (λ S. AreConflicts a.specification.now.logic a.specification.now.items.items a.limit S question.Rest rs)
      rest.is_rest are
  behind_rest answer.Open rest rs are = absurd rest

  fewer_rest : (x : Answer) → IsAnswerTo a x → IsRestOf a x (Some left)
      → count (is_in left.items) (length a.specification.now.items.items)
      < count (is_in a.among.now) (length a.specification.now.items.items)
  fewer_rest (answer.Yes m) told rest = absurd rest
  fewer_rest (answer.No c) told rest =
      subst (λ S. count S (length a.specification.now.items.items)
      < count (is_in a.among.now) (length a.specification.now.items.items)) (sym rest.is_rest)
      (rest_less a.specification.now.logic a.specification.now.items.items a.limit (is_in a.among.now) a.question (core_of c)
      so.asks_nothing told)
  fewer_rest answer.Open told rest = absurd rest

  pub lines_go_on : AreLines a.specification.now.logic a.specification.now.items.items a.limit left.items question.Rest new
  lines_go_on = record {
    are_told = told_rest added.answered.answer added.is_rest;
    asks_nothing = refl;
    is_question = tt;
    so_far = λ rs are.
        added_line a.specification.now.logic a.specification.now.items.items a.limit a.among.now a.question old new
        added.answered rs so added.is_added added.is_question added.is_answer
        (behind_rest added.answered.answer added.is_rest rs are);
  }

  pub fewer_left : count (is_in left.items) (length a.specification.now.items.items)
      < count (is_in a.among.now) (length a.specification.now.items.items)
  fewer_left = fewer_rest added.answered.answer added.is_answer added.is_rest

pub all_replies : (l : Logic) (xs : List Item) (n : ℕ) (lines all : List Answered)
    → AreOfAll l xs n (requirements xs) (map replied_of lines)
    → AreAnswered l xs n (asking xs) lines all
    → AreReplies l xs n (map replied_of all)
all_replies l xs n lines all are so = record {
  conflicts = map replied_of lines;
  others = map replied_of so.others;
  are_both = ap (map replied_of) so.are_added ∙ map-append replied_of lines so.others;
  are_conflicts = are;
  are_questions = so.are_questions;
  are_answers = so.are_answers;
}
