-- What is known while an answer is sought. Private contracts and proofs cite this.
--
--   IsAsked a           == a asks a question of a specification's requirements, with some limit
--   problem_asked a S   == the problem of the requirements in S where a's question is asked
--   AreProblemsOf a ps  == ps are the problems of a's requirements and its question, each by itself
--   IsShownBy a m s     == the state s of m meets all of a's requirements and its question, and that can be checked
--   AreRefutedBy a S r  == the requirements in S can't be met together where the question is asked, as r shows
--   IsJudged a S j      == the requirements in S are decided to be j
--   IsRefuted a r       == so they are those of r, which are among a's
--   IsSought a s        == s is what was sought for a
--   IsStep a S s        == what one step comes to, where the requirements in S were taken so far
--   IsLook a S k        == what is found of the requirements in S: a structure, or they stay open; or a refutation
--   ArePartsOf a S ps   == the parts are the requirements in S, in order, and what each says is so
--   IsSmaller a S k r   == of the requirements in S one may be left out: the others can't be met together either
--   IsRestOf a x rest   == behind the answer x the rest is to be asked, where it is a conflict
--   IsAdded a old new rest == one answer to a was added, and behind it so it is
--   AreAnswered l xs n qs old new == answers to the questions qs, asked of all requirements, were added
use Rattle.std.specs.Prelude.{ℕ, ◌≡◌, ◌<◌, ◌≤◌, ⊤, Bool, true, List, [], ◌∷◌, ◌++◌, length, map, Option, None, Some}
use Rattle.std.specs.List.{AllByRecursion}
use Rattle.std.specs.Global.{Vec}
use Rattle.ml_base.specs.Structure.{Structure}
use Rattle.ml_decide.specs.Decision.{IsMetBy, IsRefutedBy}
use Rattle.ml_front.specs.declared.logic.Logic.{Logic}
use Rattle.ml_front.specs.declared.problem.Problem.{Problem}
use Rattle.ml_refutation.specs.Views.{of_parts}
use Rattle.ml_refutation.specs.declared.refutation.Refutation.{Refutation}
use Rattle.ml_spec.specs.Questions.{is_in, IsQuestion}
use Rattle.ml_spec.specs.Specification.{IsSpecified}
use Rattle.ml_spec.specs.declared.question.Question.{Question}
use Rattle.ml_spec.specs.declared.specification.Item.{Item}
use Rattle.ml_replies.specs.Meeting.{beside, everything, numbers_in, problem_of, problems_of, without, CanStayOpen, IsHeld, IsSmall}
use Rattle.ml_replies.specs.Replies.{IsCore, IsPart, IsReply, IsShown, IsWithout}
use Rattle.ml_replies.specs.Answers.{core_of, part_of, replied_of, reply_of, without_of}
use Rattle.ml_replies.specs.declared.answer.Answer.{Answer}
use Rattle.ml_replies.specs.declared.answer.Answer.TheVariants as answer
use Rattle.ml_replies.specs.declared.answer.Answered.{Answered}
use Rattle.ml_replies.specs.declared.answer.Core.{Core}
use Rattle.ml_replies.specs.declared.answer.Part.{Part}
use Rattle.ml_ask.specs.declared.asked.Asked.{Asked}
use Rattle.ml_ask.specs.declared.deciding.Judged.{Judged}
use Rattle.ml_ask.specs.declared.deciding.Judged.TheVariants as judged
use Rattle.ml_ask.specs.declared.leaving.Look.{Look}
use Rattle.ml_ask.specs.declared.leaving.Look.TheVariants as look
use Rattle.ml_ask.specs.declared.narrowing.Step.{Step}
use Rattle.ml_ask.specs.declared.narrowing.Step.TheVariants as step
use Rattle.ml_ask.specs.declared.sought.Refuted.{Refuted}
use Rattle.ml_ask.specs.declared.sought.Sought.{Sought}
use Rattle.ml_ask.specs.declared.sought.Sought.TheVariants as sought

pub record IsAsked (a : Asked) : Type 0 where
  pub is_specified : IsSpecified a.specification.now.logic a.specification.now.items.items
  pub are_told : length a.among.now ≡ length a.specification.now.items.items
  pub is_question : IsQuestion a.specification.now.items.items a.question
  pub is_limited : 1 ≤ a.limit

abbrev pub problem_asked : Asked → (ℕ → Bool) → Problem
problem_asked a S = problem_of a.specification.now.logic a.specification.now.items.items S a.question

abbrev pub AreProblemsOf : Asked → List Problem → Type 0
AreProblemsOf a ps = ps ≡ problems_of a.specification.now.items.items (is_in a.among.now) a.question

abbrev pub IsShownBy : Asked → Structure → ℕ → Type 0
IsShownBy a m s = IsShown a.specification.now.logic a.specification.now.items.items (is_in a.among.now) a.question m s

-- ---- decided

abbrev pub AreRefutedBy : Asked → (ℕ → Bool) → Refutation → Type 0
AreRefutedBy a S r =
    IsHeld (problem_asked a S)
    × IsSmall (problem_asked a S)
    × IsRefutedBy (problem_asked a S) (of_parts r.names r.sequents r.stacks r.entries)

abbrev pub IsJudgedOf : ℕ → Problem → Judged → Type 0
IsJudgedOf n p (judged.Met m) = IsSmall p × IsMetBy p m.structure m.start
IsJudgedOf n p (judged.Refuted r) = IsSmall p × IsRefutedBy p (of_parts r.names r.sequents r.stacks r.entries)
IsJudgedOf n p judged.Open = CanStayOpen n p

abbrev pub IsJudged : Asked → (ℕ → Bool) → Judged → Type 0
IsJudged a S (judged.Met m) =
    IsShown a.specification.now.logic a.specification.now.items.items S a.question m.structure m.start
IsJudged a S (judged.Refuted r) = AreRefutedBy a S r
IsJudged a S judged.Open = CanStayOpen a.limit (problem_asked a S)

-- ---- sought

pub record IsRefuted (a : Asked) (r : Refuted) : Type 0 where
  pub are_told : length r.taken.items ≡ length a.specification.now.items.items
  pub are_among : (k : ℕ) → is_in r.taken.items k ≡ true → is_in a.among.now k ≡ true
  pub are_refuted : AreRefutedBy a (is_in r.taken.items) r.refutation

abbrev pub IsSought : Asked → Sought → Type 0
IsSought a (sought.Met m) = IsShownBy a m.structure m.start
IsSought a (sought.Unmet r) = IsRefuted a r
IsSought a sought.Open = CanStayOpen a.limit (problem_asked a (is_in a.among.now))

abbrev pub IsStep : Asked → (ℕ → Bool) → Step → Type 0
IsStep a S (step.Met m) = IsShownBy a m.structure m.start
IsStep a S (step.Unmet r) = AreRefutedBy a S r
IsStep a S (step.Take k) = is_in a.among.now k ≡ true
IsStep a S step.GiveUp = ⊤

-- ---- left out

abbrev pub IsLook : Asked → (ℕ → Bool) → Look → Type 0
IsLook a S (look.Keep w) =
    IsWithout a.specification.now.logic a.specification.now.items.items a.limit S a.question (without_of w)
IsLook a S (look.Drop r) = AreRefutedBy a S r

pub record IsSmaller (a : Asked) (S : ℕ → Bool) (k : ℕ) (r : Refutation) : Type 0 where
  pub within : k < length a.specification.now.items.items
  pub is_taken : S k ≡ true
  pub are_refuted : AreRefutedBy a (without S k) r

pub record ArePartsOf (a : Asked) (S : ℕ → Bool) (ps : List Part) : Type 0 where
  pub are_parts : map (λ p. p.requirement) (map part_of ps) ≡ numbers_in S a.specification.now.items.items
  pub are_so : AllByRecursion
      (IsPart a.specification.now.logic a.specification.now.items.items a.limit S a.question) (map part_of ps)

abbrev pub IsCoreOf : Asked → Core → Type 0
IsCoreOf a c =
    IsCore a.specification.now.logic a.specification.now.items.items a.limit (is_in a.among.now) a.question (core_of c)

-- ---- answered

abbrev pub IsAnswerTo : Asked → Answer → Type 0
IsAnswerTo a x =
    IsReply a.specification.now.logic a.specification.now.items.items a.limit (is_in a.among.now) a.question (reply_of x)

pub record IsRest (a : Asked) (c : Core) (left : List Bool) : Type 0 where
  pub are_told : length left ≡ length a.specification.now.items.items
  pub is_rest : is_in left ≡ beside (is_in a.among.now) (is_in c.taken.items)

abbrev pub IsRestOf : Asked → Answer → Option (Vec Bool) → Type 0
IsRestOf a (answer.No c) (Some left) = IsRest a c left.items
IsRestOf a (answer.No c) None = ⊥
IsRestOf a x (Some left) = ⊥
IsRestOf a x None = ⊤

pub record IsAdded (a : Asked) (old new : List Answered) (rest : Option (Vec Bool)) : Type 0 where
  pub answered : Answered
  pub is_added : new ≡ old ++ answered ∷ []
  pub is_question : answered.question ≡ a.question
  pub is_answer : IsAnswerTo a answered.answer
  pub is_rest : IsRestOf a answered.answer rest

pub record AreAnswered (l : Logic) (xs : List Item) (n : ℕ) (qs : List Question) (old new : List Answered) : Type 0 where
  pub others : List Answered
  pub are_added : new ≡ old ++ others
  pub are_questions : map (λ r. r.question) (map replied_of others) ≡ qs
  pub are_answers : AllByRecursion (λ r. IsReply l xs n everything r.question r.reply) (map replied_of others)
