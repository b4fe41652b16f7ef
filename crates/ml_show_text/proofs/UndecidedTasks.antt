-- The documents of undecided tasks, by their lines.
--
--   judges            == each line is judged at each place
--   document_or_fault, document_no_fault, one_fault == a text is one or has one first bad line, and never both
--   body_readable, body_bad == what is said of a body by itself is said of it behind the lines of a task
use Rattle.std.proofs.Common.{◌≡◌, ℕ, ◌+◌, ◌⊎◌, List, [], ◌∷◌, inl, inr}
use Rattle.ml_base.specs.declared.doc_fault.DocFault.{DocFault}
use Rattle.ml_lines.specs.Lines.{Line}
use Rattle.ml_lines.specs.Reading.{left_of}
use Rattle.ml_lines.proofs.DecidedWords.{decided_line}
use Rattle.ml_lines.proofs.Faults as text
use Rattle.ml_lists.specs.Documents.{IsFirstBad}
use Rattle.ml_lists.specs.Readings.{IsReadable, Judges}
use Rattle.ml_lists.proofs.Documents.{judged}
use Rattle.ml_realize_text.specs.RealizeText.{title_line, told_line}
use Rattle.ml_realize_text.specs.declared.realizability.Realizability.TheVariants.{Undecided}
use Rattle.ml_task.proofs.JudgedLines as task_lines
use Rattle.ml_show_text.specs.UndecidedBodies as causes
use Rattle.ml_show_text.specs.UndecidedTasks.{AtAnswer, AtBody, AtTask, AtTitle, IsFaultOf, IsUndecidedTask, rules, undecided_task}
use Rattle.ml_show_text.proofs.CauseBodies as cause_lines

pub judges : (left : List ℕ) → Judges (undecided_task left)
judges left AtTitle line = judged line (rules left AtTitle) (decided_line line title_line, λ _. tt)
judges left AtAnswer line = judged line (rules left AtAnswer) (decided_line line (told_line Undecided), λ _. tt)
judges left (AtTask place) line = task_lines.judges place line
judges left (AtBody place) line = cause_lines.judges left place line

pub document_or_fault : (t : List ℕ) → IsUndecidedTask t ⊎ ((fault : DocFault) × IsFaultOf t fault)
document_or_fault t = text.readable_or_fault undecided_task 1 AtTitle t (judges (left_of t))

pub document_no_fault : (t : List ℕ) (fault : DocFault) → IsUndecidedTask t → ¬ (IsFaultOf t fault)
document_no_fault t fault is bad = text.readable_no_fault undecided_task 1 AtTitle t fault is bad

pub one_fault : (t : List ℕ) (e f : DocFault) → IsFaultOf t e → IsFaultOf t f → e ≡ f
one_fault t e f x y = text.one_fault undecided_task 1 AtTitle t e f x y

-- ---- the body

module _ (left : List ℕ) where
  pub body_readable : (place : causes.Place) (lines : List Line)
      → IsReadable (causes.body left) place lines
      → IsReadable (undecided_task left) (AtBody place) lines
  body_readable place [] good = good
  body_readable place (line ∷ lines) (good, rest) = (good, body_readable (causes.after place line) lines rest)

  pub body_bad : (place : causes.Place) (k : ℕ) (lines : List Line) (bad r : ℕ)
      → IsFirstBad (causes.body left) k place lines bad r
      → IsFirstBad (undecided_task left) k (AtBody place) lines bad r
  body_bad place k [] bad r found = found
  body_bad place k (line ∷ lines) bad r (inl here) = inl here
  body_bad place k (line ∷ lines) bad r (inr (good, found)) =
      inr (good, body_bad (causes.after place line) (k + 1) lines bad r found)
