-- What was read of a document, as the program holds it. (Private: nobody has to believe it.)
--
--   IsShown text p r lines == the text shows the refutation r for the problem p, and the parts of its entries begin at
--                             these lines
use Rattle.std.specs.Prelude.{ℕ, List}
use Rattle.ml_base.specs.declared.version.Version.{Version}
use Rattle.ml_front.specs.declared.answer.Answer.TheVariants.{Unsatisfiable}
use Rattle.ml_front.specs.declared.problem.Problem.{Problem}
use Rattle.ml_front.specs.Documents.{first_body_line}
use Rattle.ml_front.specs.HeadRules.{IsHead}
use Rattle.ml_refutation.specs.declared.refutation.Refutation as held
use Rattle.ml_refutation_text.specs.PartLines.{AreLinesOf}
use Rattle.ml_refutation_text.specs.BodyRules.{IsTextOf}
use Rattle.ml_refutation_text.specs.declared.lines.Lines.{Lines}
use Rattle.ml_refute_check.specs.private.Parts.{plain}

pub record IsShown (text : List ℕ) (p : Problem) (r : held.Refutation) (lines : Lines) : Type 0 where
  pub version : Version
  pub body : List ℕ
  pub has_head : IsHead Unsatisfiable text version p body
  pub has_body : IsTextOf version body (plain r)
  pub are_lines : AreLinesOf version body first_body_line (plain r) lines.entries.items
