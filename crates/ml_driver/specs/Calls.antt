-- What a call gives back beside its status.
--
--   IsTelling c w s d input x == the output that was taken begins with the line of x, whose status s is; d is the command c,
--                          and the input is what was read, unless it is too long
--   IsSilent c s        == nothing is said of this status: nothing was answered, or with a text
--   IsToldIn c w s d input x == with the status s a call that found and left the world w gives back the command d, the input
--                          and what is said, x
use Rattle.std.specs.Prelude.{ℕ, ◌≡◌, ◌≢◌, ◌++◌, true, List, Option, Some, None}
use Rattle.std.specs.Io.KnownBytes.{append_known}
use Rattle.ml_driver.specs.Run.{WasGiven, World, input_limit}
use Rattle.ml_driver.specs.Said.{is_text, said_text, status_said}
use Rattle.ml_driver.specs.declared.command.Command.{Command}
use Rattle.ml_driver.specs.declared.said.Said.{Said}
use Rattle.ml_driver.specs.declared.said.Said.TheVariants.{TooLong}
use Rattle.ml_driver.specs.declared.status.Status.{Status}
use Rattle.ml_driver.specs.declared.status.Status.TheVariants.{ReadFault, WriteFault, NoMemory}

pub record IsTelling (c : Option Command) (w : World) (s : Status) (d : Option Command) (input : List ℕ) (x : Said) : Type 0 where
  pub status_is : s ≡ status_said x
  pub of_command : d ≡ c
  pub was_read : x ≢ TooLong → WasGiven (input_limit c) w.left_before w.left_after input
  pub rest : List ℕ
  pub was_taken : w.taken_after ≡ append_known w.taken_before (said_text x ++ rest)

abbrev pub IsSilent : Option Command → Status → Type 0
IsSilent c ReadFault = Unit {0}
IsSilent c WriteFault = Unit {0}
IsSilent c NoMemory = Unit {0}
IsSilent None s = ⊥
IsSilent (Some c) s = is_text c s ≡ true

abbrev pub IsToldIn : Option Command → World → Status → Option Command → List ℕ → Option Said → Type 0
IsToldIn c w s d input None = IsSilent c s
IsToldIn c w s d input (Some x) = IsTelling c w s d input x
