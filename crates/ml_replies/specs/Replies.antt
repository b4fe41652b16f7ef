-- Answers to questions about requirements, as plain values.
--
-- A specification has a logic l and items xs. A question q is asked of the requirements in a set S: of all of them, or of the
-- rest that no conflict before it names. n is the limit, how many positions the decision game of a problem may have.
--
--   Without         == what is known without a requirement: a structure with a state meets the others, or that stays open
--   Part            == a requirement, by the number of its item, with what is known without it
--   Core            == requirements that can't be met together, by a list that tells of each item whether it is among them; a
--                      part for each of them; and a refutation
--   Reply           == an answer: a structure with a state, requirements that can't be met, or open
--   Replied         == a question with its answer
--   IsMet l xs S q m s == the structure m, of which l speaks, meets the requirements in S and the question q at its state s
--   IsShown l xs S q m s == so it does, and that can be checked
--   FailsByCheck l xs S q m s == the structure m, at its state s, fails to do so, and that is found where what can be checked
--                      is: the logic doesn't speak of m; or a formula fails there, by itself where that is enough, or the
--                      joined one
--   MeetsAs l xs S q m s r == r says which of both it is, or that it is neither
--   IsWithout l xs n S q w == what w says of the requirements in S is so: a structure shows that they can be met, or this may
--                      be left open
--   IsCore l xs n S q c == the requirements of c are among those in S, and can't be met together where q is asked, as the
--                      refutation of their joined formula shows; its parts are these requirements, in order, and what each says
--                      of the others is so
--   IsReply l xs n S q r == r answers q, asked of the requirements in S: a structure shows that they can be met; or some of
--                      them can't be; or that may be left open
--   IsFollowedBy S r rs OfRest == behind the answer r, where it is a conflict, the answers rs are what OfRest says of the
--                      requirements in S that it doesn't name; and else there is none
--   AreConflicts l xs n S q rs == the first one answers q, asked of the requirements in S; where it is a conflict, the next one
--                      answers whether the rest can be met, and so on, and else there is no next one
--   AreBehind l xs n S r rs == the answers rs are those behind the answer r
--   AreReplies l xs n rs == first, where there are requirements, the answers that tell whether they are consistent, with those
--                      of the rest, and then one to each further question, in their order
use Rattle.std.specs.Prelude.{ℕ, ◌≡◌, ◌≢◌, ◌<◌, Bool, true, List, [], ◌∷◌, ◌++◌, length, map, Contains}
use Rattle.std.specs.List.{AllByRecursion}
use Rattle.ml_base.specs.Structure.{Structure}
use Rattle.ml_decide.specs.Decision.{IsRefutedBy}
use Rattle.ml_front.specs.Problems.{HoldsAt, IsAdmitted}
use Rattle.ml_front.specs.declared.logic.Logic.{Logic}
use Rattle.ml_front.specs.declared.logic.Logic.TheVariants.{Ltl}
use Rattle.ml_front.specs.declared.problem.AnyFormula.{AnyFormula}
use Rattle.ml_front.specs.declared.problem.Problem.{Problem}
use Rattle.ml_refutation.specs.Refutation.{Refutation}
use Rattle.ml_spec.specs.Joined.{requirements}
use Rattle.ml_spec.specs.Questions.{asking, is_in}
use Rattle.ml_spec.specs.declared.question.Question.{Question}
use Rattle.ml_spec.specs.declared.question.Question.TheVariants.{Consistent, Rest}
use Rattle.ml_spec.specs.declared.specification.Item.{Item}
use Rattle.ml_replies.specs.Meeting.{beside, everything, numbers_in, problem_of, problems_of, without, CanBeChecked, CanStayOpen, IsHeld, IsSmall}
use Rattle.ml_replies.specs.declared.outcome.Meets.{Meets}
use Rattle.ml_replies.specs.declared.outcome.Meets.TheVariants as meets

pub data Without : Type 0 where
  StillMet : Structure → ℕ → Without
  StillOpen : Without

pub record Part : Type 0 where
  pub requirement : ℕ
  pub without : Without

pub record Core : Type 0 where
  pub taken : List Bool
  pub parts : List Part
  pub refutation : Refutation

pub data Reply : Type 0 where
  Met : Structure → ℕ → Reply
  Unmet : Core → Reply
  LeftOpen : Reply

pub record Replied : Type 0 where
  pub question : Question
  pub reply : Reply

-- ---- what they say

pub record IsMet (l : Logic) (xs : List Item) (S : ℕ → Bool) (q : Question) (m : Structure) (s : ℕ) : Type 0 where
  pub is_admitted : IsAdmitted l m
  pub is_state : s < m.states
  pub holds : HoldsAt m s (problem_of l xs S q)

abbrev pub IsShown : Logic → List Item → (ℕ → Bool) → Question → Structure → ℕ → Type 0
IsShown l xs S q m s = CanBeChecked l xs S q × IsMet l xs S q m s

pub data FailsByCheck (l : Logic) (xs : List Item) (S : ℕ → Bool) (q : Question) (m : Structure) (s : ℕ) : Type 0 where
  not_admitted : ¬ (IsAdmitted l m) → FailsByCheck l xs S q m s
  by_one : l ≢ Ltl
      → (p : Problem) → Contains (problems_of xs S q) p → IsSmall p → ¬ (HoldsAt m s p) → FailsByCheck l xs S q m s
  by_joined : IsHeld (problem_of l xs S q)
      → IsSmall (problem_of l xs S q) → ¬ (HoldsAt m s (problem_of l xs S q)) → FailsByCheck l xs S q m s

abbrev pub MeetsAs : Logic → List Item → (ℕ → Bool) → Question → Structure → ℕ → Meets → Type 0
MeetsAs l xs S q m s meets.Yes = IsShown l xs S q m s
MeetsAs l xs S q m s meets.No = FailsByCheck l xs S q m s
MeetsAs l xs S q m s meets.Unknown = (¬ (IsShown l xs S q m s)) × (¬ (FailsByCheck l xs S q m s))

-- ---- answers

abbrev pub IsWithout : Logic → List Item → ℕ → (ℕ → Bool) → Question → Without → Type 0
IsWithout l xs n S q (StillMet m s) = IsShown l xs S q m s
IsWithout l xs n S q StillOpen = CanStayOpen n (problem_of l xs S q)

abbrev pub IsPart : Logic → List Item → ℕ → (ℕ → Bool) → Question → Part → Type 0
IsPart l xs n S q p = IsWithout l xs n (without S p.requirement) q p.without

pub record IsCore (l : Logic) (xs : List Item) (n : ℕ) (S : ℕ → Bool) (q : Question) (c : Core) : Type 0 where
  pub are_told : length c.taken ≡ length xs
  pub are_among : (k : ℕ) → is_in c.taken k ≡ true → S k ≡ true
  pub is_held : IsHeld (problem_of l xs (is_in c.taken) q)
  pub is_small : IsSmall (problem_of l xs (is_in c.taken) q)
  pub is_refuted : IsRefutedBy (problem_of l xs (is_in c.taken) q) c.refutation
  pub are_parts : map (λ p. p.requirement) c.parts ≡ numbers_in (is_in c.taken) xs
  pub are_so : AllByRecursion (IsPart l xs n (is_in c.taken) q) c.parts

abbrev pub IsReply : Logic → List Item → ℕ → (ℕ → Bool) → Question → Reply → Type 0
IsReply l xs n S q (Met m s) = IsShown l xs S q m s
IsReply l xs n S q (Unmet c) = IsCore l xs n S q c
IsReply l xs n S q LeftOpen = CanStayOpen n (problem_of l xs S q)

-- ---- all of them

abbrev pub IsFollowedBy : (ℕ → Bool) → Reply → List Replied → ((ℕ → Bool) → Type 0) → Type 0
IsFollowedBy S (Unmet c) rs OfRest = OfRest (beside S (is_in c.taken))
IsFollowedBy S r rs OfRest = rs ≡ []

abbrev pub AreConflicts : Logic → List Item → ℕ → (ℕ → Bool) → Question → List Replied → Type 0
AreConflicts l xs n S q [] = ⊥
AreConflicts l xs n S q (r ∷ rs) =
    (r.question ≡ q)
    × IsReply l xs n S q r.reply
    × IsFollowedBy S r.reply rs (λ T. AreConflicts l xs n T Rest rs)

abbrev pub AreBehind : Logic → List Item → ℕ → (ℕ → Bool) → Reply → List Replied → Type 0
AreBehind l xs n S r rs = IsFollowedBy S r rs (λ T. AreConflicts l xs n T Rest rs)

abbrev pub AreOfAll : Logic → List Item → ℕ → List AnyFormula → List Replied → Type 0
AreOfAll l xs n [] rs = rs ≡ []
AreOfAll l xs n (f ∷ fs) rs = AreConflicts l xs n everything Consistent rs

pub record AreReplies (l : Logic) (xs : List Item) (n : ℕ) (rs : List Replied) : Type 0 where
  pub conflicts : List Replied
  pub others : List Replied
  pub are_both : rs ≡ conflicts ++ others
  pub are_conflicts : AreOfAll l xs n (requirements xs) conflicts
  pub are_questions : map (λ r. r.question) others ≡ asking xs
  pub are_answers : AllByRecursion (λ r. IsReply l xs n everything r.question r.reply) others
