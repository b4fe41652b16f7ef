-- What is true of documents of machines and environments that are checked.
--
--   AreAlike x y       == x and y are the same, or both show a word
--   SomeFinding, OneFinding == in each text something is found, and one thing at most, up to which word is shown
--   ShownAreConfirmed  == whoever checks documents finds that that of a shown word holds, if it has fewer than 2 ^ 32 places
--   RightHolds         == what is written of an outcome that is right is found right, unless the word automaton is too large
--   MadeHolds          == so is each machine that is found in the game of a task, of fewer than 2 ^ 32 positions
--   DefeatedHolds      == and each environment, unless the word automaton of the formula is too large
use Rattle.std.specs.Prelude.{ℕ, ◌≡◌, ◌<◌, ◌^◌, List, length}
use Rattle.ml_ctl.specs.WellFormed.{IsWellFormed}
use Rattle.ml_ctl.specs.declared.language.Language.TheVariants.{Ltl}
use Rattle.ml_machine_check.specs.Checked.{IsLarge}
use Rattle.ml_model_check.specs.Checked.{IsCheckedAs}
use Rattle.ml_model_check.specs.declared.checked.Checked.TheVariants as checked
use Rattle.ml_realize.specs.Realizing.{IsRight}
use Rattle.ml_realize.specs.TaskGame.{IsFound}
use Rattle.ml_realize_text.specs.ReadText.{IsRealizeText, states_of}
use Rattle.ml_realize_text.specs.RealizeText.{outcome_text}
use Rattle.ml_synthesis.specs.Machines.{EnvironmentTable, MachineTable}
use Rattle.ml_synthesis.specs.declared.outcome.Outcome.{Outcome}
use Rattle.ml_synthesis.specs.declared.outcome.Outcome.TheVariants.{Defeated, Made}
use Rattle.ml_task.specs.Task.{IsTask, Task}
use Rattle.ml_machine_text.specs.Found.{IsFoundIn, ShowsWord}
use Rattle.ml_machine_text.specs.declared.finding.MachineFinding.{MachineFinding}
use Rattle.ml_machine_text.specs.declared.finding.MachineFinding.TheVariants.{Fails, Holds}

abbrev pub AreAlike : MachineFinding → MachineFinding → Type 0
AreAlike (Fails a) (Fails b) = Unit {0}
AreAlike x y = x ≡ y

abbrev pub SomeFinding : Type 0
SomeFinding = (text : List ℕ) → (x : MachineFinding) × IsFoundIn text x

abbrev pub OneFinding : Type 0
OneFinding = (text : List ℕ) (x y : MachineFinding) → IsFoundIn text x → IsFoundIn text y → AreAlike x y

abbrev pub ShownAreConfirmed : Type 0
ShownAreConfirmed = (text : List ℕ) (t : Task) (r : Outcome) (document : List ℕ)
    → IsRealizeText text t r
    → (word : ShowsWord t r document)
    → length word.shown.word < 2 ^ 32
    → IsCheckedAs document checked.Holds

-- as each task is that the program holds, its formula is well-formed
abbrev pub RightHolds : Type 0
RightHolds = (t : Task) (r : Outcome)
    → IsTask t
    → IsWellFormed Ltl t.formula
    → IsRight t r
    → states_of r < 2 ^ 32
    → ¬ (IsLarge t r)
    → IsFoundIn (outcome_text t r) Holds

abbrev pub MadeHolds : Type 0
MadeHolds = (t : Task) (limit : ℕ) (m : MachineTable)
    → IsTask t
    → IsWellFormed Ltl t.formula
    → IsFound t limit (Made m)
    → limit < 2 ^ 32
    → IsFoundIn (outcome_text t (Made m)) Holds

abbrev pub DefeatedHolds : Type 0
DefeatedHolds = (t : Task) (limit : ℕ) (e : EnvironmentTable)
    → IsTask t
    → IsWellFormed Ltl t.formula
    → IsFound t limit (Defeated e)
    → limit < 2 ^ 32
    → ¬ (IsLarge t (Defeated e))
    → IsFoundIn (outcome_text t (Defeated e)) Holds
