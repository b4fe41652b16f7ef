-- What is true of machines and environments that are checked.
--
--   AreAlike c d   == both say the same, whichever word is shown
--   OneCheck       == of what is found of a machine or an environment, both say the same
--   SomeCheck      == of each with the inputs and outputs of a task something is found
--   BrokenIsNotRight == what a word breaks isn't right
use Rattle.ml_machine_check.specs.Checked.{Breaks, Fits, IsChecked}
use Rattle.ml_machine_check.specs.declared.found.MachineVerdict.{MachineVerdict}
use Rattle.ml_machine_check.specs.declared.found.MachineVerdict.TheVariants.{ClosureTooLarge, Fails, Holds}
use Rattle.ml_realize.specs.Realizing.{IsRight}
use Rattle.ml_synthesis.specs.declared.outcome.Outcome.{Outcome}
use Rattle.ml_task.specs.Task.{IsTask, Task}
use Rattle.ml_trace.specs.WordAutomata.{WordLasso}
use Rattle.std.specs.Prelude.{ℕ}

abbrev pub AreAlike : MachineVerdict → MachineVerdict → Type 0
AreAlike Holds Holds = Unit {0}
AreAlike (Fails x) (Fails y) = Unit {0}
AreAlike ClosureTooLarge ClosureTooLarge = Unit {0}
AreAlike _ _ = ⊥

abbrev pub OneCheck : Type 0
OneCheck = (t : Task) (r : Outcome) (c d : MachineVerdict) → IsChecked t r c → IsChecked t r d → AreAlike c d

abbrev pub SomeCheck : Type 0
SomeCheck = (t : Task) (r : Outcome) → IsTask t → Fits t r → (c : MachineVerdict) × IsChecked t r c

abbrev pub BrokenIsNotRight : Type 0
BrokenIsNotRight = (t : Task) (r : Outcome) (w : WordLasso ℕ) → Breaks t r w → ¬ (IsRight t r)
