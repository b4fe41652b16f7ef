-- What `check-machine` answers of the document of a machine or an environment.
--
--   machine_told x          == the status and the output that tell what is found of it: that it is right; that it isn't, with
--                              the document of a word that breaks it; that the word automaton is too large; or why the
--                              document is refused
--   IsMachineTold text s out == s and out tell what is found of the text
use Rattle.std.specs.Prelude.{ℕ, ◌≡◌, List, ◌++◌}
use Rattle.ml_machine_check.specs.Checked.{most_nodes}
use Rattle.ml_machine_text.specs.Found.{IsFoundIn}
use Rattle.ml_machine_text.specs.declared.finding.MachineFinding.{MachineFinding}
use Rattle.ml_machine_text.specs.declared.finding.MachineFinding.TheVariants.{ClosureTooLarge, Fails, Holds, Unreadable}
use Rattle.ml_driver.specs.Said.{said_alone, said_text}
use Rattle.ml_driver.specs.declared.said.Said.TheVariants as said
use Rattle.ml_driver.specs.declared.said.Size.TheVariants.{Closure}
use Rattle.ml_driver.specs.declared.status.Status.{Status}
use Rattle.ml_driver.specs.declared.status.Status.TheVariants.{No}

abbrev pub machine_told : MachineFinding → Status × List ℕ
machine_told Holds = said_alone said.Holds
machine_told (Fails document) = (No, said_text said.Fails ++ document)
machine_told ClosureTooLarge = said_alone (said.Undecided Closure most_nodes)
machine_told (Unreadable fault) = said_alone (said.RefusedDocument fault)

pub record IsMachineTold (text : List ℕ) (s : Status) (out : List ℕ) : Type 0 where
  pub finding : MachineFinding
  pub is_found : IsFoundIn text finding
  pub status_is : s ≡ (machine_told finding).0
  pub is_written : out ≡ (machine_told finding).1
