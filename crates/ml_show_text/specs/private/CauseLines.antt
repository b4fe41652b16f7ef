-- The lines of the body of an undecided document, as they are read. Private contracts and proofs cite this.
--
--   IsCause line          == the line keeps the rules of the first one
--   Breaks place line r   == r is the first rule that a line at this place breaks
--   IsReadableAt place t  == the text, whose first line stands at this place, has no bad line
use Rattle.std.specs.Prelude.{ℕ, List}
use Rattle.ml_lines.specs.Lines.{Line}
use Rattle.ml_lines.specs.Reading.{left_of, lines_of}
use Rattle.ml_lists.specs.Documents.{IsFirstBroken}
use Rattle.ml_lists.specs.Readings.{IsReadable}
use Rattle.ml_show_text.specs.UndecidedBodies.{HasLimit, IsCauseLine, Place, body, rule_number, rules}
use Rattle.ml_show_text.specs.declared.cause_rule.CauseRule.{CauseRule}

abbrev pub IsCause : Line → Type 0
IsCause line = IsCauseLine line × HasLimit line

abbrev pub Breaks : Place → Line → CauseRule → Type 0
Breaks place line r = (left : List ℕ) → IsFirstBroken (rules left place) line (rule_number r)

abbrev pub IsReadableAt : Place → List ℕ → Type 0
IsReadableAt place text = IsReadable (body (left_of text)) place (lines_of text)
