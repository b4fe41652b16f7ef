-- What is an answer to a task.
--
-- A search makes a machine or an environment of few states. It is taken if the check of machines says that it holds, if its
-- states are numbered breadth first, and if a document has room for them. Where nothing is confirmed, one is found in the
-- task's game, if that isn't too large; its states are numbered so too.
--
--   IsNumbered r     == the states of r are numbered breadth first from 0, sets ascending, so that each of them is reached
--   IsConfirmed t r  == r is numbered so, has as many states as a document may have, and the check of machines says of r that
--                       it holds: the graph of its word automaton isn't too large, and r is right
--   IsAnswer t n r   == r is confirmed, or found in the game of t, which has at most n positions then
use Rattle.std.specs.Prelude.{ℕ, ◌<◌, ◌^◌, ◌⊎◌, map}
use Rattle.ml_machine_check.specs.Checked.{IsChecked}
use Rattle.ml_machine_check.specs.declared.found.MachineVerdict.TheVariants as checked
use Rattle.ml_realize.specs.TaskGame.{IsFound}
use Rattle.ml_realize_text.specs.ReadText.{states_of}
use Rattle.ml_synthesis.specs.Synthesis.{AreInOrder, nexts}
use Rattle.ml_synthesis.specs.declared.outcome.Outcome.{Outcome}
use Rattle.ml_synthesis.specs.declared.outcome.Outcome.TheVariants as outcome
use Rattle.ml_task.specs.Task.{Task}

abbrev pub IsNumbered : Outcome → Type 0
IsNumbered (outcome.Made m) = AreInOrder (map nexts m)
IsNumbered (outcome.Defeated e) = AreInOrder e.next

pub record IsConfirmed (t : Task) (r : Outcome) : Type 0 where
  pub holds : IsChecked t r checked.Holds
  pub numbered : IsNumbered r
  pub few : states_of r < 2 ^ 32

abbrev pub IsAnswer : Task → ℕ → Outcome → Type 0
IsAnswer t n r = IsConfirmed t r ⊎ IsFound t n r
