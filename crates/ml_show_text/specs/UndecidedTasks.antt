-- The documents of undecided tasks, as a format.
--
-- Such a document begins as that of a machine or an environment does, with a title, an answer and the three lines of a task;
-- here the answer is `undecided`. Behind them stands the body of an undecided document. The rules of the title, of the lines
-- of the task and of the body are those of such lines in other documents. Since the title and the answer tell the kind of a
-- document, no text is refused for them that is read as one of this kind.
--
--   Place               == what stands at a line: the title, the answer, a line of the task, or one of the body
--   after place line    == what stands behind a line, if that one is good
--   rules left place    == the rules of a line at a place, in a text of which `left` stands behind the last LF
--   undecided_task left == the places with their rules
--   IsFaultOf text f    == f tells the first bad line of the text, and the lowest rule that it breaks
--   IsUndecidedTask text == the text has no bad line
use Rattle.std.specs.Prelude.{ℕ, ◌≡◌, List, [], ◌∷◌}
use Rattle.ml_base.specs.declared.doc_fault.DocFault.{DocFault}
use Rattle.ml_lines.specs.Faults.{IsFault}
use Rattle.ml_lines.specs.Lines.{Line}
use Rattle.ml_lines.specs.Reading.{left_of, lines_of}
use Rattle.ml_lists.specs.Documents.{Format, Rule, rule}
use Rattle.ml_lists.specs.Readings.{IsReadable}
use Rattle.ml_realize_text.specs.RealizeRules as outcomes
use Rattle.ml_realize_text.specs.RealizeText.{told_line}
use Rattle.ml_realize_text.specs.declared.line_rule.LineRule.TheVariants.{OfHead}
use Rattle.ml_realize_text.specs.declared.realizability.Realizability.TheVariants.{Undecided}
use Rattle.ml_task.specs.TaskText as task
use Rattle.ml_show_text.specs.UndecidedBodies as causes

pub data Place : Type 0 where
  AtTitle AtAnswer : Place
  AtTask : task.Place → Place
  AtBody : causes.Place → Place

abbrev pub after : Place → Line → Place
after AtTitle line = AtAnswer
after AtAnswer line = AtTask task.AtInputs
after (AtTask (task.AtFormula names)) line = AtBody causes.AtCause
after (AtTask place) line = AtTask (task.after place line)
after (AtBody place) line = AtBody (causes.after place line)

abbrev pub rules : List ℕ → Place → List (Rule Line)
rules left AtTitle = outcomes.rules left outcomes.AtTitle
rules left AtAnswer = rule (outcomes.rule_number OfHead) (λ line. line ≡ told_line Undecided) ∷ []
rules left (AtTask place) = task.rules place
rules left (AtBody place) = causes.rules left place

abbrev pub undecided_task : List ℕ → Format Line Place
undecided_task left = record { rules = rules left; after = after; missing = [] }

abbrev pub IsFaultOf : List ℕ → DocFault → Type 0
IsFaultOf text fault = IsFault undecided_task 1 AtTitle text fault

abbrev pub IsUndecidedTask : List ℕ → Type 0
IsUndecidedTask text = IsReadable (undecided_task (left_of text)) AtTitle (lines_of text)
