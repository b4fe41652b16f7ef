-- What `realize` and `make` answer of the text of a task.
--
-- Yes comes with the document of a machine that realizes the task, and no with that of an environment that defeats it. By the
-- whole game both are found in the game of the task. By a search either they are, or the check of machines says that what was
-- found holds, and a document has room for its states. But if the automaton of the task or its game is too large, that alone is
-- said.
--
--   IsFoundBy w t n r      == r is an answer to the task t with the limit n, in the way w
--   IsMadeOf w t n r out   == out is the document of r, which is right for t, and such an answer
--   IsOpenFor t n c        == t stays undecided for the cause c: too large an automaton, or else a game past the limit n
--   IsLeftOpen t n out     == out is the document that says so
--   IsTaskTold w t n s out == this status and this output are due for the task t
--   IsTaskAnswered w n text s out == this status and this output are due for the text; one that can't be read is refused by its
--                             first bad line
use Rattle.std.specs.Prelude.{ℕ, ◌≡◌, List}
use Rattle.ml_decide.specs.declared.way.Way.{Way}
use Rattle.ml_decide.specs.declared.way.Way.TheVariants.{WholeGame, Search}
use Rattle.ml_make.specs.Making.{IsAnswer}
use Rattle.ml_realize.specs.Realizing.{IsRight}
use Rattle.ml_realize.specs.TaskGame.{IsFound, IsLarge, PassesLimit, most_nodes}
use Rattle.ml_realize_text.specs.RealizeText.{outcome_text, undecided_text}
use Rattle.ml_realize_text.specs.declared.cause.Cause.{Cause}
use Rattle.ml_realize_text.specs.declared.cause.Cause.TheVariants.{Closure, Positions}
use Rattle.ml_synthesis.specs.Machines.{EnvironmentTable, MachineTable}
use Rattle.ml_synthesis.specs.declared.outcome.Outcome.{Outcome}
use Rattle.ml_synthesis.specs.declared.outcome.Outcome.TheVariants.{Made, Defeated}
use Rattle.ml_task.specs.Task.{Task}
use Rattle.ml_task.specs.TaskText.{IsTaskFault, IsTaskText}
use Rattle.ml_driver.specs.Statuses.{IsUnreadable}
use Rattle.ml_driver.specs.Texts.{StandsFor}
use Rattle.ml_driver.specs.declared.status.Status.{Status}
use Rattle.ml_driver.specs.declared.status.Status.TheVariants.{Yes, No, Undecided, Text}

abbrev pub IsFoundBy : Way → Task → ℕ → Outcome → Type 0
IsFoundBy WholeGame t limit r = IsFound t limit r
IsFoundBy Search t limit r = IsAnswer t limit r

pub record IsMadeOf (w : Way) (t : Task) (limit : ℕ) (r : Outcome) (out : List ℕ) : Type 0 where
  pub is_right : IsRight t r
  pub is_found : IsFoundBy w t limit r
  pub is_written : out ≡ outcome_text t r

abbrev pub IsOpenFor : Task → ℕ → Cause → Type 0
IsOpenFor t limit (Positions n) = (n ≡ limit) × PassesLimit t limit
IsOpenFor t limit (Closure n) = (n ≡ most_nodes) × IsLarge t

pub record IsLeftOpen (t : Task) (limit : ℕ) (out : List ℕ) : Type 0 where
  pub cause : Cause
  pub is_open : IsOpenFor t limit cause
  pub is_written : out ≡ undecided_text t cause

abbrev pub IsTaskTold : Way → Task → ℕ → Status → List ℕ → Type 0
IsTaskTold w t limit Yes out = (m : MachineTable) × IsMadeOf w t limit (Made m) out
IsTaskTold w t limit No out = (e : EnvironmentTable) × IsMadeOf w t limit (Defeated e) out
IsTaskTold w t limit Undecided out = IsLeftOpen t limit out
IsTaskTold w t limit _ out = ⊥

abbrev pub IsTaskAnswered : Way → ℕ → List ℕ → Status → List ℕ → Type 0
IsTaskAnswered w limit text Text out = IsUnreadable (IsTaskFault text) out
IsTaskAnswered w limit text status out = StandsFor IsTaskText text (λ t. IsTaskTold w t limit status out)
