-- The title and the answer of the document of an undecided task, and what stands behind them.
--
--   fault_behind, readable_behind == what is said of the rest behind lines that lead to its place is said of all
--   not_fixed                     == a text whose first line has other bytes doesn't begin with a fixed line
--   other_title, other_second     == another first line than the title is bad, and another second one than the answer
--   both_lines                    == the two lines together
--   behind_head                   == the first bad line behind them is that of the document
--   document_read, body_refused   == and what is said of the body behind the lines of the task is said of the document
use Rattle.std.proofs.Common.{◌≡◌, ◌≢◌, ℕ, ◌+◌, false, List, [], ◌∷◌, ◌++◌, length, slice_index_or, inl, refl, sym, ap, subst, ◌∙◌, length-append, arith}
use Rattle.std.specs.Str.{bytes_eq}
use Rattle.ml_base.specs.declared.doc_fault.DocFault.{DocFault}
use Rattle.ml_base.specs.declared.doc_refusal.DocRefusal.{DocRefusal}
use Rattle.ml_base.specs.declared.doc_refusal.DocRefusal.TheVariants.{Fault, NoMemory}
use Rattle.ml_lines.specs.Faults.{IsFault}
use Rattle.ml_lines.specs.Lines.{Line}
use Rattle.ml_lines.specs.Reading.{left_of, lines_of, words_of}
use Rattle.ml_lines.specs.private.Fronts.{GoesOn}
use Rattle.ml_lists.specs.Documents.{IsFirstBad}
use Rattle.ml_lists.specs.Readings.{IsReadable, Runs}
use Rattle.ml_lists.proofs.Runs.{run_on, runs_bad, runs_readable}
use Rattle.ml_realize_text.specs.RealizeText.{title_line, told_line}
use Rattle.ml_realize_text.specs.declared.realizability.Realizability.TheVariants.{Undecided}
use Rattle.ml_realize_text.proofs.FixedWords.{other_word}
use Rattle.ml_realize_text.proofs.SetReads.{text_is}
use Rattle.ml_task.specs.TaskText as task
use Rattle.ml_show_text.specs.UndecidedBodies as causes
use Rattle.ml_show_text.specs.UndecidedTasks.{AtAnswer, AtBody, AtTask, AtTitle, IsFaultOf, IsUndecidedTask, Place, undecided_task}
use Rattle.ml_show_text.specs.private.TaskLines.{IsTaskRead, TellsFault, TellsTaskFault, head_lines}
use Rattle.ml_show_text.proofs.UndecidedTasks.{body_bad, body_readable}

-- ---- lines that lead to a rest

module _ (p q : Place) (text rest : List ℕ) (lines : List Line) (goes : GoesOn text lines rest)
    (runs : (left : List ℕ) → Runs (undecided_task left) p lines q) where
  pub fault_behind : (k j : ℕ) (fault : DocFault)
      → j ≡ k + length lines
      → IsFault undecided_task j q rest fault
      → IsFault undecided_task k p text fault
  fault_behind k j fault counted found =
      let left = left_of text in
      let behind : IsFirstBad (undecided_task left) j q (lines_of rest) fault.line fault.rule =
      subst (λ l. IsFirstBad (undecided_task l) j q (lines_of rest) fault.line fault.rule) (sym goes.left_is) found in
      subst (λ ls. IsFirstBad (undecided_task left) k p ls fault.line fault.rule) (sym goes.lines_are)
      (runs_bad (undecided_task left) k j p q lines (lines_of rest) fault.line fault.rule (runs left) counted behind)

  pub readable_behind : IsReadable (undecided_task (left_of rest)) q (lines_of rest)
      → IsReadable (undecided_task (left_of text)) p (lines_of text)
  readable_behind readable =
      let left = left_of text in
      let behind : IsReadable (undecided_task left) q (lines_of rest) =
      subst (λ l. IsReadable (undecided_task l) q (lines_of rest)) (sym goes.left_is) readable in
      subst (IsReadable (undecided_task left) p) (sym goes.lines_are)
      (runs_readable (undecided_task left) p q lines (lines_of rest) (runs left) behind)

-- ---- the title and the answer

pub not_fixed : (text line fixed rest : List ℕ)
    → lines_of text ≡ words_of line ∷ lines_of rest
    → false ≡ bytes_eq line fixed
    → (more : List Line)
    → lines_of text ≢ words_of fixed ∷ more
not_fixed text line fixed rest begins test more same =
    other_word line fixed fixed test refl
    (text_is line fixed (ap (λ ls. slice_index_or ls 0 []) (sym begins ∙ same)))

other_first : (text : List ℕ) (fixed line : Line) (ls : List Line)
    → ((rest : List Line) → lines_of text ≢ fixed ∷ rest)
    → lines_of text ≡ line ∷ ls
    → line ≢ fixed
other_first text fixed line ls other same is = other ls (same ∙ ap (λ l. l ∷ ls) is)

pub other_title : (text : List ℕ) (fault : DocFault)
    → ((rest : List Line) → lines_of text ≢ title_line ∷ rest)
    → fault.line ≡ 1
    → fault.rule ≡ 1
    → IsFaultOf text fault
other_title text fault other line rule = go (lines_of text) refl
  where
    go : (ls : List Line) → lines_of text ≡ ls → IsFaultOf text fault
    go [] same =
        subst (λ ls. IsFirstBad (undecided_task (left_of text)) 1 AtTitle ls fault.line fault.rule) (sym same)
        (line, inl (rule, λ is. cc))
    go (l ∷ ls) same =
        subst (λ ls. IsFirstBad (undecided_task (left_of text)) 1 AtTitle ls fault.line fault.rule) (sym same)
        (inl (line, inl (rule, other_first text title_line l ls other same)))

other_answer : (text : List ℕ) (fault : DocFault)
    → ((rest : List Line) → lines_of text ≢ told_line Undecided ∷ rest)
    → fault.line ≡ 2
    → fault.rule ≡ 1
    → IsFault undecided_task 2 AtAnswer text fault
other_answer text fault other line rule = go (lines_of text) refl
  where
    go : (ls : List Line) → lines_of text ≡ ls → IsFault undecided_task 2 AtAnswer text fault
    go [] same =
        subst (λ ls. IsFirstBad (undecided_task (left_of text)) 2 AtAnswer ls fault.line fault.rule) (sym same)
        (line, inl (rule, λ is. cc))
    go (l ∷ ls) same =
        subst (λ ls. IsFirstBad (undecided_task (left_of text)) 2 AtAnswer ls fault.line fault.rule) (sym same)
        (inl (line, inl (rule, other_first text (told_line Undecided) l ls other same)))

pub other_second : (text rest : List ℕ) (fault : DocFault)
    → GoesOn text (title_line ∷ []) rest
    → ((more : List Line) → lines_of rest ≢ told_line Undecided ∷ more)
    → fault.line ≡ 2
    → fault.rule ≡ 1
    → IsFaultOf text fault
other_second text rest fault goes other line rule =
    fault_behind AtTitle AtAnswer text rest (title_line ∷ []) goes (λ left. ((refl, tt), refl)) 1 2 fault refl
    (other_answer rest fault other line rule)

pub both_lines : (text rest lines : List ℕ)
    → GoesOn text (title_line ∷ []) rest
    → GoesOn rest (told_line Undecided ∷ []) lines
    → GoesOn text head_lines lines
both_lines text rest lines first second = record {
  lines_are = first.lines_are ∙ ap (λ more. title_line ∷ more) second.lines_are;
  left_is = first.left_is ∙ second.left_is;
  shorter = omega (arith, first.shorter, second.shorter);
}

head_runs : (left : List ℕ) → Runs (undecided_task left) AtTitle head_lines (AtTask task.AtInputs)
head_runs left = ((refl, tt), ((refl, tt), refl))

module _ (text lines : List ℕ) (head : GoesOn text head_lines lines) where
  pub behind_head : (e : DocRefusal) → TellsTaskFault lines e → TellsFault text e
  behind_head NoMemory tells = tt
  behind_head (Fault fault) tells =
      fault_behind AtTitle (AtTask task.AtInputs) text lines head_lines head head_runs 1 3 fault refl tells

  module _ (rest : List ℕ) (read : IsTaskRead lines rest) where
    all_lines : GoesOn text (head_lines ++ read.lines) rest
    all_lines = record {
      lines_are = head.lines_are ∙ ap (λ more. head_lines ++ more) read.goes.lines_are;
      left_is = head.left_is ∙ read.goes.left_is;
      shorter = omega (arith, head.shorter, read.goes.shorter, length-append head_lines read.lines);
    }

    all_run : (left : List ℕ) → Runs (undecided_task left) AtTitle (head_lines ++ read.lines) (AtBody causes.AtCause)
    all_run left =
        run_on (undecided_task left) AtTitle (AtTask task.AtInputs) (AtBody causes.AtCause) head_lines read.lines (head_runs left)
        (read.runs left)

    pub document_read : causes.IsReadableBody rest → IsUndecidedTask text
    document_read readable =
        readable_behind AtTitle (AtBody causes.AtCause) text rest (head_lines ++ read.lines) all_lines all_run
        (body_readable (left_of rest) causes.AtCause (lines_of rest) readable)

    pub body_refused : (fault : DocFault) → causes.IsFaultOf rest 6 fault → IsFaultOf text fault
    body_refused fault bad =
        fault_behind AtTitle (AtBody causes.AtCause) text rest (head_lines ++ read.lines) all_lines all_run 1 6 fault
        (omega (arith, read.three, length-append head_lines read.lines)) (body_bad (left_of rest) causes.AtCause 6 (lines_of rest) fault.line fault.rule bad)
