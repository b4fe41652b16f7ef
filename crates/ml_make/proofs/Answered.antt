-- Answers are right, and some answer is due.
--
--   answers_right    == what is confirmed or found is right
--   answers_numbered == and its states are numbered breadth first
--   never_both       == so never both are answers, since both are right
--   some_answer      == what is found is an answer
use Rattle.std.proofs.Common.{ℕ, ◌⊎◌, inl, inr}
use Rattle.ml_make.specs.Laws.{AnswersAreRight, NeverBoth, SomeAnswer}
use Rattle.ml_make.specs.Making.{IsAnswer, IsNumbered}
use Rattle.ml_realize.specs.TaskGame.{IsFound, IsLarge, PassesLimit}
use Rattle.ml_realize.proofs.NeverBoth as realize
use Rattle.ml_realize.proofs.RightOutcomes.{found_right}
use Rattle.ml_realize.proofs.SomeOutcomes.{some_outcome}
use Rattle.ml_synthesis.specs.declared.outcome.Outcome.{Outcome}
use Rattle.ml_synthesis.specs.declared.outcome.Outcome.TheVariants as outcome
use Rattle.ml_task.specs.Task.{Task}

pub answers_right : AnswersAreRight
answers_right t n r ok (inl confirmed) = confirmed.holds.1
answers_right t n r ok (inr found) = found_right t n r ok found

pub answers_numbered : (t : Task) (n : ℕ) (r : Outcome) → IsAnswer t n r → IsNumbered r
answers_numbered t n r (inl confirmed) = confirmed.numbered
answers_numbered t n (outcome.Made m) (inr found) = found.is_outcome.in_order
answers_numbered t n (outcome.Defeated e) (inr found) = found.is_outcome.in_order

pub never_both : NeverBoth
never_both t n k m e ok made defeated =
    realize.never_both t m e (answers_right t n (outcome.Made m) ok made) (answers_right t k (outcome.Defeated e) ok defeated)

pub some_answer : SomeAnswer
some_answer t n = by (some_outcome t n)
  where
    by : IsLarge t ⊎ (PassesLimit t n ⊎ ((r : Outcome) × IsFound t n r))
        → IsLarge t ⊎ (PassesLimit t n ⊎ ((r : Outcome) × IsAnswer t n r))
    by (inl large) = inl large
    by (inr (inl passes)) = inr (inl passes)
    by (inr (inr found)) = inr (inr (found.0, inr found.1))
