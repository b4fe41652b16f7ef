-- The task of an undecided document, as it is read.
--
--   task_read      == three lines that are the text of a task lead to the body
--   task_refused   == where the task is refused, its first bad line is that of the document
--   few_lines      == which is one of the first four
use Rattle.std.proofs.Common.{◌≡◌, ℕ, suc, ◌+◌, ◌≤◌, List, [], ◌∷◌, ◌++◌, length, drop, inl, inr, refl, sym, ap, subst, ◌∙◌, arith}
use Rattle.ml_base.specs.declared.doc_fault.DocFault.{DocFault}
use Rattle.ml_base.specs.declared.doc_refusal.DocRefusal.TheVariants.{Fault}
use Rattle.ml_lines.specs.Lines.{Line}
use Rattle.ml_lines.specs.Reading.{left_of, lines_of}
use Rattle.ml_lines.specs.private.Fronts.{GoesOn}
use Rattle.ml_lists.specs.Documents.{IsFirstBad}
use Rattle.ml_lists.specs.Readings.{IsReadable, Runs}
use Rattle.ml_realize_text.specs.private.Reads.{AreFirst}
use Rattle.ml_realize_text.proofs.HeadRead.{bad_within}
use Rattle.ml_task.specs.Task.{Task}
use Rattle.ml_task.specs.TaskText as task
use Rattle.ml_task.specs.TaskText.{IsTaskFault, IsTaskText, task_lines}
use Rattle.ml_task.proofs.ReadableTasks.{task_readable}
use Rattle.ml_show_text.specs.UndecidedBodies as causes
use Rattle.ml_show_text.specs.UndecidedTasks.{AtBody, AtTask, undecided_task, Place}
use Rattle.ml_show_text.specs.private.TaskLines.{IsBehindTask, IsTaskRead, TellsTaskFault}

shorter : (n : ℕ) (l : Line) (ls more : List Line) → AreFirst (suc n) (l ∷ ls) more → AreFirst n ls more
shorter n l ls more (inl long) = inl (omega (arith, long))
shorter n l ls more (inr (few, none)) = inr (omega (arith, few), none)

module _ (left : List ℕ) (bad out r : ℕ) where
  -- nothing stands behind fewer lines than there may be
  ends_there : (n k : ℕ) (p : Place) (more : List Line)
      → AreFirst (suc n) [] more
      → IsFirstBad (undecided_task left) k p [] out r
      → IsFirstBad (undecided_task left) k p more out r
  ends_there n k p more (inl long) found = absurd (omega (arith, long))
  ends_there n k p more (inr (few, none)) found =
      subst (λ ms. IsFirstBad (undecided_task left) k p ms out r) (sym none) found

  formula_bad : (names : List (List ℕ)) (j k : ℕ) (ls more : List Line)
      → AreFirst 1 ls more
      → bad + k ≡ out + j
      → IsFirstBad task.task j (task.AtFormula names) ls bad r
      → IsFirstBad (undecided_task left) k (AtTask (task.AtFormula names)) (ls ++ more) out r
  formula_bad names j k [] more first moved (is, broken) =
      ends_there 0 k (AtTask (task.AtFormula names)) more first (omega (arith, moved, is), broken)
  formula_bad names j k (l ∷ []) more first moved (inl (is, broken)) = inl (omega (arith, moved, is), broken)
  formula_bad names j k (l ∷ []) more first moved (inr (good, (is, inl (number, none)))) = absurd (none refl)
  formula_bad names j k (l ∷ []) more first moved (inr (good, (is, inr (kept, none)))) = absurd none
  formula_bad names j k (l ∷ m ∷ ls) more (inl long) moved found = absurd (omega (arith, long))
  formula_bad names j k (l ∷ m ∷ ls) more (inr (few, none)) moved found = absurd (omega (arith, few))

  outputs_bad : (inputs : List (List ℕ)) (j k : ℕ) (ls more : List Line)
      → AreFirst 2 ls more
      → bad + k ≡ out + j
      → IsFirstBad task.task j (task.AtOutputs inputs) ls bad r
      → IsFirstBad (undecided_task left) k (AtTask (task.AtOutputs inputs)) (ls ++ more) out r
  outputs_bad inputs j k [] more first moved (is, broken) =
      ends_there 1 k (AtTask (task.AtOutputs inputs)) more first (omega (arith, moved, is), broken)
  outputs_bad inputs j k (l ∷ ls) more first moved (inl (is, broken)) = inl (omega (arith, moved, is), broken)
  outputs_bad inputs j k (l ∷ ls) more first moved (inr (good, found)) =
      inr (
        good,
        formula_bad (inputs ++ drop 1 l) (j + 1) (k + 1) ls more (shorter 1 l ls more first) (omega (arith, moved)) found,
      )

  inputs_bad : (j k : ℕ) (ls more : List Line)
      → AreFirst 3 ls more
      → bad + k ≡ out + j
      → IsFirstBad task.task j task.AtInputs ls bad r
      → IsFirstBad (undecided_task left) k (AtTask task.AtInputs) (ls ++ more) out r
  inputs_bad j k [] more first moved (is, broken) =
      ends_there 2 k (AtTask task.AtInputs) more first (omega (arith, moved, is), broken)
  inputs_bad j k (l ∷ ls) more first moved (inl (is, broken)) = inl (omega (arith, moved, is), broken)
  inputs_bad j k (l ∷ ls) more first moved (inr (good, found)) =
      inr (good, outputs_bad (drop 1 l) (j + 1) (k + 1) ls more (shorter 2 l ls more first) (omega (arith, moved)) found)

-- a text of these lines, which are the first three of the text that goes on with the rest, or all
module _ (text rest front : List ℕ) (behind : IsBehindTask text rest)
    (are : (lines : List Line) → GoesOn text lines rest → task_lines front ≡ lines) where
  at_most : (lines : List Line) → AreFirst 3 lines (lines_of rest) → length lines ≤ 3
  at_most lines (inl long) = omega (arith, long)
  at_most lines (inr (few, none)) = omega (arith, few)

  module _ (fault : DocFault) (found : IsTaskFault front fault) where
    pub few_lines : fault.line ≤ 4
    few_lines =
        let (lines, goes, first) = behind in
        let within = bad_within task.task 1 task.AtInputs (task_lines front) fault.line fault.rule found in
        omega (arith, within.1, ap length (are lines goes), at_most lines first)

    pub task_refused : TellsTaskFault text (Fault (record { line = 2 + fault.line; rule = fault.rule }))
    task_refused =
        let (lines, goes, first) = behind in
        let here = subst (λ ls. IsFirstBad task.task 1 task.AtInputs ls fault.line fault.rule) (are lines goes) found in
        subst (λ ls. IsFirstBad (undecided_task (left_of text)) 3 (AtTask task.AtInputs) ls (2 + fault.line) fault.rule)
        (sym goes.lines_are)
        (inputs_bad (left_of text) fault.line (2 + fault.line) fault.rule 1 3 lines (lines_of rest) first (omega arith) here)

  pub task_read : (t : Task) → IsTaskText front t → IsTaskRead text rest
  task_read t is =
      let (lines, goes, first) = behind in
      let same = sym (are lines goes) ∙ is.lines_are in
      let good = subst (IsReadable task.task task.AtInputs) is.lines_are (task_readable front t is) in
      record {
        lines = lines;
        goes = goes;
        three = ap length same;
        runs = λ left.
            subst (λ ls. Runs (undecided_task left) (AtTask task.AtInputs) ls (AtBody causes.AtCause)) (sym same)
            (good.0, (good.1.0, (good.1.1.0, refl)));
      }
