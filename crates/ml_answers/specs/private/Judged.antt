-- What comes of answers, as it is found. Private contracts and proofs cite this.
--
--   worse s t            == what comes of two parts together, where s and t come of them
--   ComesTo P W s        == s comes of what is shown where P is true and wrong where W is
--   FitsItems xs r       == a core tells of each item whether it is among its requirements
--   IsJudgable xs a      == what is stated answers a question of the items xs, and fits them
--   IsJudgedTo l xs ps first == of these answers none is wrong, and `first` is the line of the first one that isn't shown, if
--                               there is one
use Rattle.std.specs.Prelude.{ℕ, ◌≡◌, ⊤, List, Option, None, Some, length}
use Rattle.std.specs.List.{AllByRecursion}
use Rattle.ml_front.specs.declared.logic.Logic.{Logic}
use Rattle.ml_spec.specs.Questions.{IsQuestion}
use Rattle.ml_spec.specs.declared.specification.Item.{Item}
use Rattle.ml_replies.specs.Answers.{reply_of}
use Rattle.ml_replies.specs.Replies.{Reply, Unmet}
use Rattle.ml_answers.specs.Checked.{IsFirst, IsShownAt, IsWrongAt, Placed}
use Rattle.ml_answers.specs.declared.stated.Stated.{Stated}
use Rattle.ml_answers.specs.declared.judging.Standing.{Standing}
use Rattle.ml_answers.specs.declared.judging.Standing.TheVariants.{Shown, Unsettled, Wrong}

abbrev pub worse : Standing → Standing → Standing
worse Wrong t = Wrong
worse s Wrong = Wrong
worse Shown Shown = Shown
worse s t = Unsettled

abbrev pub ComesTo : (P W : Type 0) → Standing → Type 0
ComesTo P W Shown = P
ComesTo P W Wrong = W
ComesTo P W Unsettled = (¬ P) × (¬ W)

-- a core tells of each item whether it is among its requirements
abbrev pub FitsItems : List Item → Reply → Type 0
FitsItems xs (Unmet c) = length c.taken ≡ length xs
FitsItems xs r = ⊤

pub record IsJudgable (xs : List Item) (a : Stated) : Type 0 where
  pub is_question : IsQuestion xs a.question
  pub fits : FitsItems xs (reply_of a.statement)

abbrev pub AreShownTo : Logic → List Item → List Placed → Option ℕ → Type 0
AreShownTo l xs ps None = AllByRecursion (IsShownAt l xs) ps
AreShownTo l xs ps (Some line) = IsFirst (λ p. ¬ (IsShownAt l xs p)) ps line

abbrev pub IsJudgedTo : Logic → List Item → List Placed → Option ℕ → Type 0
IsJudgedTo l xs ps first = AllByRecursion (λ p. ¬ (IsWrongAt l xs p)) ps × AreShownTo l xs ps first
