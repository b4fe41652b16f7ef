-- What `ask` answers of a file of requirements and questions.
--
--   status_of v             == yes where all is as whoever wrote the file means it; no where some answer says no; else
--                              undecided
--   requirements_told t     == the status and the output that tell t
--   IsAsked f n text s out  == s and out tell what is told of the text in the form f, with the limit n
use Rattle.std.specs.Prelude.{ℕ, ◌≡◌, List}
use Rattle.ml_ask_text.specs.Told.{IsToldOf}
use Rattle.ml_ask_text.specs.declared.told.Form.{Form}
use Rattle.ml_ask_text.specs.declared.told.Told.{Told}
use Rattle.ml_ask_text.specs.declared.told.Told.TheVariants.{Answered, Refused}
use Rattle.ml_ask_text.specs.declared.told.Verdict.{Verdict}
use Rattle.ml_ask_text.specs.declared.told.Verdict.TheVariants.{AsMeant, Against, Open}
use Rattle.ml_driver.specs.Said.{said_alone}
use Rattle.ml_driver.specs.declared.said.Said.TheVariants.{RefusedRequirements}
use Rattle.ml_driver.specs.declared.status.Status.{Status}
use Rattle.ml_driver.specs.declared.status.Status.TheVariants.{Yes, No, Undecided}

abbrev pub status_of : Verdict → Status
status_of AsMeant = Yes
status_of Against = No
status_of Open = Undecided

abbrev pub requirements_told : Told → Status × List ℕ
requirements_told (Answered verdict written) = (status_of verdict, written)
requirements_told (Refused line column rule) = said_alone (RefusedRequirements line column rule)

pub record IsAsked (f : Form) (limit : ℕ) (text : List ℕ) (s : Status) (out : List ℕ) : Type 0 where
  pub told : Told
  pub is_told : IsToldOf f text limit told
  pub status_is : s ≡ (requirements_told told).0
  pub is_written : out ≡ (requirements_told told).1
