-- What is said once an output is written. Private contracts cite this.
--
--   IsDelivered c text b a f g s d i y == the answer to the command c on the text was delivered to a sink that had taken b and
--                               has taken a, with the status s, and d, i and y are what is given back: written, as far as the
--                               sink takes it; or memory was wanting, and nothing was taken
--   IsSaidIf b a out x s y u == the whole output out was taken, and the status s and what it says, x, are told as they are, by
--                               u and y; or its writing failed, and nothing is said
use Rattle.std.specs.Prelude.{ℕ, ◌≡◌, ◌⊎◌, List, Option, None, Some}
use Rattle.std.specs.Io.KnownBytes.{append_known}
use Rattle.ml_driver.specs.Confirmed.{IsConfirmed}
use Rattle.ml_driver.specs.Run.{IsAnswer, IsWhole, Wrote}
use Rattle.ml_driver.specs.Said.{is_text, IsTold}
use Rattle.ml_driver.specs.declared.command.Command.{Command}
use Rattle.ml_driver.specs.declared.said.Said.{Said}
use Rattle.ml_driver.specs.declared.status.Status.{Status}
use Rattle.ml_driver.specs.declared.status.Status.TheVariants.{NoMemory, WriteFault}

abbrev pub IsSaidIf : Option (List ℕ) → Option (List ℕ) → List ℕ → Option Said → Status → Option Said → Status → Type 0
IsSaidIf before after output said due told status =
    ((status ≡ due) × (told ≡ said) × (after ≡ append_known before output)) ⊎ ((status ≡ WriteFault) × (told ≡ None))

pub data IsDelivered
    (c : Command) (text : List ℕ) (before after : Option (List ℕ)) (faults_before faults_after : ℕ) (s : Status)
    (d : Option Command) (input : List ℕ) (said : Option Said)
    : Type 0 where
  wrote : (due : Status) (output : List ℕ) (x : Option Said)
      → IsAnswer c text due output
      → IsConfirmed (Some c) due output
      → IsWhole output
      → IsTold (is_text c) due output x
      → Wrote before after faults_before faults_after due output s
      → d ≡ Some c
      → input ≡ text
      → IsSaidIf before after output x due said s
      → IsDelivered c text before after faults_before faults_after s d input said
  lacked : s ≡ NoMemory
      → said ≡ None
      → after ≡ before
      → faults_after ≡ faults_before
      → IsDelivered c text before after faults_before faults_after s d input said
