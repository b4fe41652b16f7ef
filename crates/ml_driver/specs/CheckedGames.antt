-- What `check-game` answers of the text of a parity game with a solution behind it.
--
--   finding_said f          == what is said of what the check finds: that the solution is right, or the id of a vertex whose
--                              entry breaks a rule, and the rule
--   IsGameChecked text s out == s and out say what the check finds of the text's solution, or why the text is refused, and at
--                              which byte
use Rattle.std.specs.Prelude.{ℕ, ◌≡◌, List, Some}
use Rattle.ml_pgsolver.specs.CheckedText.{IsCheckRefusedBy, IsFoundIn}
use Rattle.ml_pgsolver.specs.declared.finding.SolutionFinding.{SolutionFinding}
use Rattle.ml_pgsolver.specs.declared.finding.SolutionFinding.TheVariants.{Accepted, Rejected}
use Rattle.ml_pgsolver.specs.declared.refusal.GameTextRefusal.{GameTextRefusal}
use Rattle.ml_driver.specs.Games.{game_refusal_line}
use Rattle.ml_driver.specs.Said.{IsSaid}
use Rattle.ml_driver.specs.declared.said.Said.{Said}
use Rattle.ml_driver.specs.declared.said.Said.TheVariants as said
use Rattle.ml_driver.specs.declared.status.Status.{Status}
use Rattle.ml_driver.specs.declared.status.Status.TheVariants.{Text}

abbrev pub finding_said : SolutionFinding → Said
finding_said Accepted = said.Accepted
finding_said (Rejected id rule) = said.RejectedVertex id rule

pub data IsGameChecked (text : List ℕ) (s : Status) (out : List ℕ) : Type 0 where
  if_found : (f : SolutionFinding) → IsFoundIn text f → IsSaid (finding_said f) s out → IsGameChecked text s out
  if_unread : (e : GameTextRefusal) → IsCheckRefusedBy text e → s ≡ Text → Some out ≡ game_refusal_line e
      → IsGameChecked text s out
