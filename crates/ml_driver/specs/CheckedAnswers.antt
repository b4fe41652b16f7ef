-- What `check-answers` answers of a file of requirements with answers behind it.
--
--   said_of x              == what is said of it: that each answer is shown; or which line is the first that is wrong, or that
--                             stays open; or why the input is refused
--   AreAnswersTold text s out == s and out say what is found of the text
use Rattle.std.specs.Prelude.{ℕ, ◌≡◌, List}
use Rattle.ml_answers.specs.Checked.{IsFound}
use Rattle.ml_answers.specs.declared.finding.AnswersFinding.{AnswersFinding}
use Rattle.ml_answers.specs.declared.finding.AnswersFinding.TheVariants.{NoDocument, OpenAt, Refused, Right, TooLong, Unreadable, WrongAt}
use Rattle.ml_driver.specs.Said.{IsSaid}
use Rattle.ml_driver.specs.declared.said.Said.{Said}
use Rattle.ml_driver.specs.declared.said.Said.TheVariants as said
use Rattle.ml_driver.specs.declared.status.Status.{Status}

abbrev pub said_of : AnswersFinding → Said
said_of Right = said.Right
said_of (WrongAt line) = said.WrongLine line
said_of (OpenAt line) = said.OpenLine line
said_of TooLong = said.TooLong
said_of (NoDocument line column) = said.NoAnswers line column
said_of (Refused line column rule) = said.RefusedRequirements line column rule
said_of (Unreadable fault) = said.RefusedDocument fault

pub record AreAnswersTold (text : List ℕ) (s : Status) (out : List ℕ) : Type 0 where
  pub finding : AnswersFinding
  pub is_found : IsFound text finding
  pub is_said : IsSaid (said_of finding) s out
