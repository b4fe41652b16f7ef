-- The document that is written, as bytes. It is the only one of which `IsDocumentOf` speaks; `ask files` cites it itself.
--
--   document_of p r == the document that is written for the problem p and the refutation r
use Rattle.std.specs.Prelude.{ℕ, List, ◌++◌}
use Rattle.ml_base.specs.declared.version.Version.TheVariants.{Two}
use Rattle.ml_lines.specs.Lines.{text_of}
use Rattle.ml_front.specs.Head.{head_lines}
use Rattle.ml_front.specs.declared.answer.Answer.TheVariants.{Unsatisfiable}
use Rattle.ml_front.specs.declared.problem.Problem.{Problem}
use Rattle.ml_refutation.specs.Refutation.{Refutation}
use Rattle.ml_refutation_text.specs.WrittenText.{written_text}

abbrev pub document_of : Problem → Refutation → List ℕ
document_of p r = text_of (head_lines Two Unsatisfiable p) ++ written_text Two r
