-- Where a text is refused by a format.
--
-- What a line is asked may depend on what stands behind the last LF of the text: so the format is one for each such
-- end.
--
--   IsFault F k place text f  == f tells the first bad line of the text, of which the first line stands at this place
--                                and has the number k, and the number of the first rule that this line breaks
use Rattle.std.specs.Prelude.{ℕ, List}
use Rattle.ml_base.specs.declared.doc_fault.DocFault.{DocFault}
use Rattle.ml_lines.specs.Lines.{Line}
use Rattle.ml_lines.specs.Reading.{lines_of, left_of}
use Rattle.ml_lists.specs.Documents.{Format, IsFirstBad}

abbrev pub IsFault : {Place : Type 0} → (List ℕ → Format Line Place) → ℕ → Place → List ℕ → DocFault → Type 0
IsFault F k place text fault = IsFirstBad (F (left_of text)) k place (lines_of text) fault.line fault.rule
