-- What is true of texts of tasks.
--
--   OneTask          == a text is one of one task at most
--   SomeAnswer       == it is one of a task, or has a first bad line
--   TaskOrFault      == never both
--   OneFault         == it has one first bad line at most, with one lowest rule
--   TaskRulesRise    == the numbers of the rules of a line rise
use Rattle.std.specs.Prelude.{ℕ, ◌≡◌, ◌⊎◌, List}
use Rattle.ml_base.specs.declared.doc_fault.DocFault.{DocFault}
use Rattle.ml_lists.specs.Readings.{NumbersRise}
use Rattle.ml_task.specs.Task.{Task}
use Rattle.ml_task.specs.TaskText.{IsTaskText, IsTaskFault, task}

abbrev pub OneTask : Type 0
OneTask = (text : List ℕ) (t u : Task) → IsTaskText text t → IsTaskText text u → t ≡ u

abbrev pub SomeAnswer : Type 0
SomeAnswer = (text : List ℕ) → ((t : Task) × IsTaskText text t) ⊎ ((fault : DocFault) × IsTaskFault text fault)

abbrev pub TaskOrFault : Type 0
TaskOrFault = (text : List ℕ) (t : Task) (fault : DocFault) → IsTaskText text t → ¬ (IsTaskFault text fault)

abbrev pub OneFault : Type 0
OneFault = (text : List ℕ) (e f : DocFault) → IsTaskFault text e → IsTaskFault text f → e ≡ f

abbrev pub TaskRulesRise : Type 0
TaskRulesRise = NumbersRise task
