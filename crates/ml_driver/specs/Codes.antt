-- The numbers of the exit statuses.
--
--   code_of status   == the number of the status
use Rattle.std.specs.Prelude.{ℕ}
use Rattle.ml_driver.specs.declared.status.Status.{Status}
use Rattle.ml_driver.specs.declared.status.Status.TheVariants.{Yes, No, Undecided, Words, Text, ReadFault, WriteFault, NoMemory}

abbrev pub code_of : Status → ℕ
code_of Yes = 0
code_of No = 1
code_of Undecided = 2
code_of Words = 3
code_of Text = 4
code_of ReadFault = 5
code_of WriteFault = 6
code_of NoMemory = 7
