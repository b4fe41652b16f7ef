-- What is true of answers to tasks.
--
--   SomeAnswer      == a task is large, or its game has more than n positions, or it has an answer
--   AnswersAreRight == an answer to a task as it is read is right
--   NeverBoth       == of a machine and an environment never both are answers, whatever the limits are
use Rattle.std.specs.Prelude.{ℕ, ◌⊎◌}
use Rattle.ml_make.specs.Making.{IsAnswer}
use Rattle.ml_realize.specs.Realizing.{IsRight}
use Rattle.ml_realize.specs.TaskGame.{IsLarge, PassesLimit}
use Rattle.ml_synthesis.specs.Machines.{EnvironmentTable, MachineTable}
use Rattle.ml_synthesis.specs.declared.outcome.Outcome.{Outcome}
use Rattle.ml_synthesis.specs.declared.outcome.Outcome.TheVariants as outcome
use Rattle.ml_task.specs.Task.{IsTask, Task}

abbrev pub SomeAnswer : Type 0
SomeAnswer = (t : Task) (n : ℕ) → IsLarge t ⊎ (PassesLimit t n ⊎ ((r : Outcome) × IsAnswer t n r))

abbrev pub AnswersAreRight : Type 0
AnswersAreRight = (t : Task) (n : ℕ) (r : Outcome) → IsTask t → IsAnswer t n r → IsRight t r

abbrev pub NeverBoth : Type 0
NeverBoth = (t : Task) (n k : ℕ) (m : MachineTable) (e : EnvironmentTable)
    → IsTask t
    → IsAnswer t n (outcome.Made m)
    → ¬ (IsAnswer t k (outcome.Defeated e))
