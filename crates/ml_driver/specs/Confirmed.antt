-- Documents that stand in outputs, and are confirmed.
--
-- Behind the two lines of a path, and behind the line `fails` of `check-machine`, stands a document that shows what is said.
-- Whoever checks documents with a structure finds that it holds: the problem that it has is true at its start.
--
--   IsConfirmedBehind front out == out is the front, with a document behind it that is found to hold
--   IsConfirmed c s out         == so is the output with a path, and that with a word that breaks a machine or an environment
use Rattle.std.specs.Prelude.{ℕ, ◌≡◌, List, ◌++◌, Option, Some}
use Rattle.ml_lists.specs.Lasso.{Lasso}
use Rattle.ml_model_check.specs.Checked.{IsCheckedAs}
use Rattle.ml_model_check.specs.declared.checked.Checked.TheVariants.{Holds}
use Rattle.ml_path_text.specs.WrittenPath.{path_lines}
use Rattle.ml_driver.specs.Said.{said_text}
use Rattle.ml_driver.specs.declared.said.Said.TheVariants.{Fails}
use Rattle.ml_driver.specs.declared.command.Command.{Command}
use Rattle.ml_driver.specs.declared.command.Command.TheVariants.{CheckMachine, Path}
use Rattle.ml_driver.specs.declared.status.Status.{Status}
use Rattle.ml_driver.specs.declared.status.Status.TheVariants.{Yes, No}

pub record IsConfirmedBehind (front out : List ℕ) : Type 0 where
  pub document : List ℕ
  pub stands : out ≡ front ++ document
  pub holds : IsCheckedAs document Holds

abbrev pub IsConfirmed : Option Command → Status → List ℕ → Type 0
IsConfirmed (Some Path) Yes out = (l : Lasso) × IsConfirmedBehind (path_lines l) out
IsConfirmed (Some CheckMachine) No out = IsConfirmedBehind (said_text Fails) out
IsConfirmed _ _ _ = Unit {0}
