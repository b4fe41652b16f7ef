-- A whole document, as it is read.
--
--   task_runs          == the lines of a task lead to the body
--   behind_head, behind_lines == where the lines of the task are refused, the document is, and where the body is
--   document_read      == what was read is the document
--   input_words, output_words == the names of a task have bytes
use Rattle.std.proofs.Common.{◌≡◌, ℕ, true, List, [], ◌∷◌, ◌++◌, codes, refl, sym, ap, subst, ◌∙◌}
use Rattle.std.specs.List.{AllByRecursion, list_all}
use Rattle.std.proofs.lemmas.Bool.{and_parts}
use Rattle.std.proofs.lemmas.List.Folds.{list_all-append}
use Rattle.ml_base.specs.declared.doc_refusal.DocRefusal.{DocRefusal}
use Rattle.ml_lines.specs.Lines.{Line}
use Rattle.ml_lines.specs.Reading.{AreWords, words_of}
use Rattle.ml_lists.specs.Readings.{IsReadable, Runs}
use Rattle.ml_synthesis.specs.declared.outcome.Outcome.{Outcome}
use Rattle.ml_task.specs.Task.{IsTask, Task, is_named}
use Rattle.ml_task.specs.TaskText as tasks
use Rattle.ml_task.specs.TaskText.{IsTaskText, task, task_lines}
use Rattle.ml_task.proofs.ReadableTasks.{are_words, task_readable}
use Rattle.ml_realize_text.specs.ReadText.{IsRealizeText}
use Rattle.ml_realize_text.specs.RealizeRules.{AtInputs, AtStates, AtTitle, realize}
use Rattle.ml_realize_text.specs.RealizeText.{end_line, lines_about, outcome_lines, title_line, told_line}
use Rattle.ml_realize_text.specs.declared.realizability.Realizability.{Realizability}
use Rattle.ml_realize_text.specs.declared.head.BodyOf.{BodyOf}
use Rattle.ml_realize_text.specs.declared.rest.Rest.{Rest}
use Rattle.ml_realize_text.specs.private.Reads.{Goes, IsBodyRead, IsTaskRead, TellsFault, answer_of, signals_of}
use Rattle.ml_realize_text.proofs.CutLines.{IsCut, cut_lines, text_of_three}
use Rattle.ml_realize_text.proofs.Going.{goes_on, told_behind}
use Rattle.ml_realize_text.proofs.HeadRead.{head_runs}
use Rattle.ml_lists.proofs.Runs.{run_on}

abbrev lines_of_task : Task → List ℕ → List Line
lines_of_task t text =
    (codes "inputs" ∷ t.inputs) ∷ (codes "outputs" ∷ t.outputs) ∷ (codes "formula" ∷ words_of text) ∷ []

module _ (at : Rest) (t : Task) (rest : Rest) (read : IsTaskRead at t rest) where
  three_lines : (given : List ℕ) × (task_lines given ≡ lines_of_task t read.formula_text)
  three_lines =
      let all = subst (AllByRecursion IsCut) read.goes.lines_are (cut_lines at.text.now) in
      text_of_three (codes "inputs" ∷ t.inputs) (codes "outputs" ∷ t.outputs) (codes "formula" ∷ words_of read.formula_text) all.0
      all.1.0 all.1.1.0

  is_text : IsTaskText three_lines.0 t
  is_text = record {
    formula_text = read.formula_text;
    lines_are = three_lines.1;
    is_parsed = read.is_parsed;
    is_task = read.is_task;
  }

  good : IsReadable task tasks.AtInputs (lines_of_task t read.formula_text)
  good = subst (IsReadable task tasks.AtInputs) three_lines.1 (task_readable three_lines.0 t is_text)

  pub task_runs : (a : Realizability) (left : List ℕ)
      → Runs (realize left) (AtInputs a) (lines_of_task t read.formula_text) (AtStates (signals_of a t))
  task_runs a left = (good.0, (good.1.0, (good.1.1.0, refl)))

module _ (at lines : Rest) (body : BodyOf) (head : Goes at (title_line ∷ told_line (answer_of body) ∷ []) lines) where
  pub behind_head : (e : DocRefusal) → ((a : Realizability) → TellsFault (AtInputs a) lines e) → TellsFault AtTitle at e
  behind_head e tells =
      told_behind AtTitle (AtInputs (answer_of body)) at lines (title_line ∷ told_line (answer_of body) ∷ []) e head (head_runs body)
      (tells (answer_of body))

  module _ (t : Task) (rest : Rest) (read : IsTaskRead lines t rest) where
    pub behind_lines : (e : DocRefusal)
        → TellsFault (AtStates (signals_of (answer_of body) t)) rest e
        → TellsFault AtTitle at e
    behind_lines e tells =
        told_behind AtTitle (AtStates (signals_of (answer_of body) t)) at rest
        (title_line ∷ told_line (answer_of body) ∷ lines_of_task t read.formula_text) e (goes_on head read.goes)
        (λ left.
        run_on (realize left) AtTitle (AtInputs (answer_of body)) (AtStates (signals_of (answer_of body) t))
        (title_line ∷ told_line (answer_of body) ∷ []) (lines_of_task t read.formula_text) (head_runs body left)
        (task_runs lines t rest read (answer_of body) left))
        tells

    pub document_read : (r : Outcome) → IsBodyRead rest (answer_of body) t r → IsRealizeText at.text.now t r
    document_read r is = record {
      formula_text = read.formula_text;
      lines_are =
          (goes_on head read.goes).lines_are
          ∙ ap (λ ls. lines_about (answer_of body) t (words_of read.formula_text) ++ ls) is.body.lines_are
          ∙ ap (λ a. lines_about a t (words_of read.formula_text) ++ (outcome_lines t r ++ end_line ∷ [])) (sym is.answer_is);
      none_left = (goes_on head read.goes).left_is ∙ is.body.none_left;
      is_parsed = read.is_parsed;
      is_task = read.is_task;
      fits = is.fits;
      few = is.few;
    }

-- ---- the names of a task have bytes

module _ (t : Task) (is : IsTask t) where
  named : (list_all is_named t.inputs ≡ true) × (list_all is_named t.outputs ≡ true)
  named =
      and_parts (list_all is_named t.inputs) (list_all is_named t.outputs)
      (sym (list_all-append is_named t.inputs t.outputs) ∙ is.are_named)

  pub input_words : AreWords t.inputs
  input_words = are_words t.inputs named.0

  pub output_words : AreWords t.outputs
  output_words = are_words t.outputs named.1
