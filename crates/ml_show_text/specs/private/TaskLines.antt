-- The lines of the document of an undecided task, as they are read. Private contracts and proofs cite this.
--
--   head_lines             == the title and the answer
--   IsBehindLine text rest == the rest stands behind the first line of a text, or is the text itself, where it has none
--   IsBehindTask text rest == the rest stands behind the three lines of a task, or behind all lines, where there are fewer
--   IsTaskRead text rest   == the text goes on with three good lines of a task, and then with the rest
--   TellsTaskFault text e  == the refusal e tells the first bad line of what stands behind the head, if it isn't for want of
--                             memory
--   TellsFault text e      == so of a whole document
use Rattle.std.specs.Prelude.{ℕ, ◌≡◌, ◌⊎◌, ⊤, List, [], ◌∷◌, length}
use Rattle.ml_base.specs.declared.doc_refusal.DocRefusal.{DocRefusal}
use Rattle.ml_base.specs.declared.doc_refusal.DocRefusal.TheVariants.{Fault, NoMemory}
use Rattle.ml_lines.specs.Faults.{IsFault}
use Rattle.ml_lines.specs.Lines.{Line}
use Rattle.ml_lines.specs.Reading.{lines_of}
use Rattle.ml_lines.specs.private.Fronts.{GoesOn}
use Rattle.ml_lists.specs.Readings.{Runs}
use Rattle.ml_realize_text.specs.RealizeText.{title_line, told_line}
use Rattle.ml_realize_text.specs.declared.realizability.Realizability.TheVariants.{Undecided}
use Rattle.ml_realize_text.specs.private.Reads.{AreFirst}
use Rattle.ml_task.specs.TaskText as task
use Rattle.ml_show_text.specs.UndecidedBodies as causes
use Rattle.ml_show_text.specs.UndecidedTasks.{AtBody, AtTask, IsFaultOf, undecided_task}

abbrev pub head_lines : List Line
head_lines = title_line ∷ told_line Undecided ∷ []

abbrev pub IsBehindLine : (text rest : List ℕ) → Type 0
IsBehindLine text rest = ((line : Line) × GoesOn text (line ∷ []) rest) ⊎ ((lines_of text ≡ []) × (rest ≡ text))

abbrev pub IsBehindTask : (text rest : List ℕ) → Type 0
IsBehindTask text rest = (lines : List Line) × GoesOn text lines rest × AreFirst 3 lines (lines_of rest)

pub record IsTaskRead (text rest : List ℕ) : Type 0 where
  pub lines : List Line
  pub goes : GoesOn text lines rest
  pub three : length lines ≡ 3
  pub runs : (left : List ℕ) → Runs (undecided_task left) (AtTask task.AtInputs) lines (AtBody causes.AtCause)

abbrev pub TellsTaskFault : List ℕ → DocRefusal → Type 0
TellsTaskFault text (Fault fault) = IsFault undecided_task 3 (AtTask task.AtInputs) text fault
TellsTaskFault text NoMemory = ⊤

abbrev pub TellsFault : List ℕ → DocRefusal → Type 0
TellsFault text (Fault fault) = IsFaultOf text fault
TellsFault text NoMemory = ⊤
