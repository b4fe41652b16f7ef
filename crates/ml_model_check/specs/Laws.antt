-- What is true of documents with a structure, and of checking them.
--
--   SomeCheck, OneCheck == checking a text finds something, and one thing at most
--   DocumentsReadBack   == what is written is read back
use Rattle.std.specs.Prelude.{ℕ, ◌≡◌, List, ◌++◌}
use Rattle.ml_base.specs.Structure.{Structure}
use Rattle.ml_base.specs.declared.version.Version.{Version}
use Rattle.ml_lines.specs.Lines.{text_of}
use Rattle.ml_kripke.specs.ModelText.{IsWritten, model_text}
use Rattle.ml_kripke.specs.Ordered.{IsOrdered}
use Rattle.ml_front.specs.Head.{head_lines}
use Rattle.ml_front.specs.WellFormed.{IsWellFormed}
use Rattle.ml_front.specs.declared.answer.Answer.TheVariants.{Satisfiable}
use Rattle.ml_front.specs.declared.problem.Problem.{Problem}
use Rattle.ml_model_check.specs.Checked.{IsCheckedAs, IsDocument}
use Rattle.ml_model_check.specs.declared.checked.Checked.{Checked}

-- checking a text finds something
abbrev pub SomeCheck : Type 0
SomeCheck = (text : List ℕ) → (c : Checked) × IsCheckedAs text c

-- and one thing at most
abbrev pub OneCheck : Type 0
OneCheck = (text : List ℕ) (c d : Checked) → IsCheckedAs text c → IsCheckedAs text d → c ≡ d

-- what is written for a well-formed formula, with a structure in order and a start, is read back, in either version
abbrev pub DocumentsReadBack : Type 0
DocumentsReadBack = (v : Version) (p : Problem) (m : Structure) (start : ℕ)
    → IsWellFormed p.formula → IsWritten m start → IsOrdered m
    → IsDocument (text_of (head_lines v Satisfiable p) ++ model_text m start) p m start
