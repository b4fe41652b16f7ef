-- What `show` says of a text that it doesn't show.
--
--   said_of_shown f    == what is said of the fault f: the first bad line of a document; of answers, what `check-answers` says
--   IsNotShown text out == out says why the text isn't shown
use Rattle.std.specs.Prelude.{ℕ, ◌≡◌, List}
use Rattle.ml_answers.specs.Checked.{finding_of}
use Rattle.ml_show_text.specs.Shown.{IsFault}
use Rattle.ml_show_text.specs.declared.refusal.ShowFault.{ShowFault}
use Rattle.ml_show_text.specs.declared.refusal.ShowFault.TheVariants.{Answers, Document}
use Rattle.ml_driver.specs.CheckedAnswers.{said_of}
use Rattle.ml_driver.specs.Said.{said_text}
use Rattle.ml_driver.specs.declared.said.Said.{Said}
use Rattle.ml_driver.specs.declared.said.Said.TheVariants.{RefusedDocument}

abbrev pub said_of_shown : ShowFault → Said
said_of_shown (Document fault) = RefusedDocument fault
said_of_shown (Answers fault) = said_of (finding_of fault)

pub record IsNotShown (text out : List ℕ) : Type 0 where
  pub fault : ShowFault
  pub is_fault : IsFault text fault
  pub is_written : out ≡ said_text (said_of_shown fault)
