-- Documents of machines and environments: what a text is of, and where it has no bad line.
--
--   document_readable   == the text of a task and an outcome has no bad line
--   readable_document   == a text without a bad line is one of a task and an outcome
use Rattle.std.proofs.Common.{◌≡◌, ℕ, true, List, [], ◌∷◌, ◌++◌, drop, slice_index_or, codes, refl, sym, ap, subst, ◌∙◌}
use Rattle.std.specs.List.{AllByRecursion, list_all}
use Rattle.std.proofs.lemmas.Bool.{and_parts}
use Rattle.ml_lines.specs.Lines.{Line}
use Rattle.ml_lines.specs.Reading.{AreWords, is_word, left_of, lines_of, word, words_of}
use Rattle.ml_lists.specs.Readings.{IsReadable}
use Rattle.ml_synthesis.specs.declared.outcome.Outcome.{Outcome}
use Rattle.ml_synthesis.specs.declared.outcome.Outcome.TheVariants as outcome
use Rattle.ml_task.specs.Task.{Task}
use Rattle.ml_task.specs.TaskText as tasks
use Rattle.ml_task.specs.TaskText.{IsTaskText, task, task_lines}
use Rattle.ml_task.proofs.ReadableTasks.{readable_task, task_readable}
use Rattle.ml_realize_text.specs.ReadText.{IsRealizeText}
use Rattle.ml_realize_text.specs.RealizeRules.{AtInputs, AtStates, AtTitle, realize, told}
use Rattle.ml_realize_text.specs.RealizeText.{outcome_answer, title_line, told_line}
use Rattle.ml_realize_text.specs.declared.realizability.Realizability.{Realizability}
use Rattle.ml_realize_text.specs.declared.realizability.Realizability.TheVariants.{Realizable, Undecided, Unrealizable}
use Rattle.ml_realize_text.specs.private.Reads.{environment_of, machine_of}
use Rattle.ml_realize_text.proofs.Bodies.{EnvironmentBody, MachineBody, environment_body, machine_body, read_environment, read_machine}
use Rattle.ml_realize_text.proofs.CutLines.{IsCut, cut_lines, text_of_three}
use Rattle.ml_realize_text.proofs.FixedWords.{differ}

pub apart : (a : Realizability) → told_line a ≡ told_line Undecided → (a ≡ Undecided)
apart Realizable same = absurd (differ (codes "realizable") (codes "undecided") refl (ap (λ l. word l 1) same))
apart Unrealizable same = absurd (differ (codes "unrealizable") (codes "undecided") refl (ap (λ l. word l 1) same))
apart Undecided same = refl

outcome_told : (r : Outcome) → ¬ (told_line (outcome_answer r) ≡ told_line Undecided)
outcome_told (outcome.Made m) same = let e = apart Realizable same in cc
outcome_told (outcome.Defeated e) same = let e = apart Unrealizable same in cc

-- ---- what is of a task and an outcome has no bad line

module _ (text : List ℕ) (t : Task) (r : Outcome) (is : IsRealizeText text t r) where
  abbrev pub three : List Line
  three =
      (codes "inputs" ∷ t.inputs) ∷ (codes "outputs" ∷ t.outputs) ∷ (codes "formula" ∷ words_of is.formula_text) ∷ []

  pub task_text : (given : List ℕ) × (task_lines given ≡ three)
  task_text =
      let cut = subst (AllByRecursion IsCut) is.lines_are (cut_lines text) in
      text_of_three (codes "inputs" ∷ t.inputs) (codes "outputs" ∷ t.outputs) (codes "formula" ∷ words_of is.formula_text)
      cut.1.1.0 cut.1.1.1.0 cut.1.1.1.1.0

  pub as_task : IsTaskText task_text.0 t
  as_task = record {
    formula_text = is.formula_text;
    lines_are = task_text.1;
    is_parsed = is.is_parsed;
    is_task = is.is_task;
  }

  good : IsReadable task tasks.AtInputs three
  good = subst (IsReadable task tasks.AtInputs) task_text.1 (task_readable task_text.0 t as_task)

  inputs_words : AreWords t.inputs
  inputs_words = (and_parts true (list_all is_word t.inputs) good.0.0.0).1

  outputs_words : AreWords t.outputs
  outputs_words = (and_parts true (list_all is_word t.outputs) good.1.0.0.0).1

module _ (text : List ℕ) (t : Task) where
  pub document_readable : (r : Outcome) → IsRealizeText text t r → IsReadable (realize (left_of text)) AtTitle (lines_of text)
  document_readable (outcome.Made m) is =
      let three = good text t (outcome.Made m) is in
      subst (IsReadable (realize (left_of text)) AtTitle) (sym is.lines_are) (
        (refl, tt),
        (
          ((Realizable, refl), (outcome_told (outcome.Made m), tt)),
          (
            three.0,
            (
              three.1.0,
              (
                three.1.1.0,
                machine_body (left_of text) t.inputs t.outputs m is.fits is.few (inputs_words text t (outcome.Made m) is)
                    (outputs_words text t (outcome.Made m) is) is.none_left,
              ),
            ),
          ),
        ),
      )
  document_readable (outcome.Defeated e) is =
      let three = good text t (outcome.Defeated e) is in
      subst (IsReadable (realize (left_of text)) AtTitle) (sym is.lines_are) (
        (refl, tt),
        (
          ((Unrealizable, refl), (outcome_told (outcome.Defeated e), tt)),
          (
            three.0,
            (
              three.1.0,
              (
                three.1.1.0,
                environment_body (left_of text) t.inputs t.outputs e is.fits is.few (inputs_words text t (outcome.Defeated e) is)
                    (outputs_words text t (outcome.Defeated e) is) is.none_left,
              ),
            ),
          ),
        ),
      )

-- ---- what has no bad line is of a task and an outcome

abbrev Document : List ℕ → Type 0
Document text = (t : Task) × (r : Outcome) × IsRealizeText text t r

module _ (text : List ℕ) (l1 l2 l3 l4 l5 : Line) (rest : List Line) (same : lines_of text ≡ l1 ∷ l2 ∷ l3 ∷ l4 ∷ l5 ∷ rest)
    (title : l1 ≡ title_line) where
  lines_cut : AllByRecursion IsCut (l1 ∷ l2 ∷ l3 ∷ l4 ∷ l5 ∷ rest)
  lines_cut = subst (AllByRecursion IsCut) same (cut_lines text)

  rest_cut : AllByRecursion IsCut rest
  rest_cut = lines_cut.1.1.1.1.1

  three_text : (given : List ℕ) × (task_lines given ≡ l3 ∷ l4 ∷ l5 ∷ [])
  three_text = text_of_three l3 l4 l5 lines_cut.1.1.0 lines_cut.1.1.1.0 lines_cut.1.1.1.1.0

  -- the task of the three lines, where they are good
  pub record OfTask : Type 0 where
    pub task_is : Task
    pub given : List ℕ
    pub is_text : IsTaskText given task_is
    pub lines_are : l3 ∷ l4 ∷ l5 ∷ []
        ≡ (codes "inputs" ∷ task_is.inputs) ∷ (codes "outputs" ∷ task_is.outputs) ∷ (codes "formula" ∷ words_of is_text.formula_text) ∷ []

  of_task : IsReadable task tasks.AtInputs (l3 ∷ l4 ∷ l5 ∷ []) → OfTask
  of_task readable =
      let found = readable_task three_text.0 (subst (IsReadable task tasks.AtInputs) (sym three_text.1) readable) in
      record { task_is = found.0; given = three_text.0; is_text = found.1; lines_are = sym three_text.1 ∙ found.1.lines_are }

  machine_document : (x : OfTask)
      → l2 ≡ told_line Realizable
      → MachineBody (left_of text) x.task_is.inputs x.task_is.outputs rest
      → Document text
  machine_document x answer body = (
    x.task_is,
    outcome.Made body.table,
    record {
      formula_text = x.is_text.formula_text;
      lines_are =
          same
          ∙ (λ i. title i ∷ answer i ∷ (x.lines_are i ++ rest))
          ∙ ap
          (λ ls. title_line ∷ told_line Realizable ∷ (codes "inputs" ∷ x.task_is.inputs) ∷ (codes "outputs" ∷ x.task_is.outputs)
          ∷ (codes "formula" ∷ words_of x.is_text.formula_text) ∷ ls)
          body.lines_are;
      none_left = body.none_left;
      is_parsed = x.is_text.is_parsed;
      is_task = x.is_text.is_task;
      fits = body.fits;
      few = body.few;
    },
  )

  environment_document : (x : OfTask)
      → l2 ≡ told_line Unrealizable
      → EnvironmentBody (left_of text) x.task_is.inputs x.task_is.outputs rest
      → Document text
  environment_document x answer body = (
    x.task_is,
    outcome.Defeated body.table,
    record {
      formula_text = x.is_text.formula_text;
      lines_are =
          same
          ∙ (λ i. title i ∷ answer i ∷ (x.lines_are i ++ rest))
          ∙ ap
          (λ ls. title_line ∷ told_line Unrealizable ∷ (codes "inputs" ∷ x.task_is.inputs) ∷ (codes "outputs" ∷ x.task_is.outputs)
          ∷ (codes "formula" ∷ words_of x.is_text.formula_text) ∷ ls)
          body.lines_are;
      none_left = body.none_left;
      is_parsed = x.is_text.is_parsed;
      is_task = x.is_text.is_task;
      fits = body.fits;
      few = body.few;
    },
  )

  inputs_are : (x : OfTask) → drop 1 l3 ≡ x.task_is.inputs
  inputs_are x = ap (λ ls. drop 1 (slice_index_or ls 0 [])) x.lines_are

  outputs_are : (x : OfTask) → drop 1 l4 ≡ x.task_is.outputs
  outputs_are x = ap (λ ls. drop 1 (slice_index_or ls 1 [])) x.lines_are

  pub five_lines : (a : Realizability)
      → l2 ≡ told_line a
      → ¬ (l2 ≡ told_line Undecided)
      → IsReadable (realize (left_of text)) (AtInputs a) (l3 ∷ l4 ∷ l5 ∷ rest)
      → Document text
  five_lines Realizable answer decided readable =
      let x = of_task (readable.0, (readable.1.0, (readable.1.1.0, (refl, tt)))) in
      machine_document x answer
      (read_machine (left_of text) x.task_is.inputs x.task_is.outputs rest rest_cut
      (subst (λ ins. IsReadable (realize (left_of text)) (AtStates (machine_of ins x.task_is.outputs)) rest) (inputs_are x)
      (subst (λ outs. IsReadable (realize (left_of text)) (AtStates (machine_of (drop 1 l3) outs)) rest) (outputs_are x)
      readable.1.1.1)))
  five_lines Unrealizable answer decided readable =
      let x = of_task (readable.0, (readable.1.0, (readable.1.1.0, (refl, tt)))) in
      environment_document x answer
      (read_environment (left_of text) x.task_is.inputs x.task_is.outputs rest rest_cut
      (subst (λ ins. IsReadable (realize (left_of text)) (AtStates (environment_of ins x.task_is.outputs)) rest) (inputs_are x)
      (subst (λ outs. IsReadable (realize (left_of text)) (AtStates (environment_of (drop 1 l3) outs)) rest) (outputs_are x)
      readable.1.1.1)))
  five_lines Undecided answer decided readable = absurd (decided answer)

pub told_back : (a : Realizability) → ¬ (told_line a ≡ told_line Undecided) → told (told_line a) ≡ a
told_back Realizable decided = refl
told_back Unrealizable decided = refl
told_back Undecided decided = absurd (decided refl)

pub readable_document : (text : List ℕ) → IsReadable (realize (left_of text)) AtTitle (lines_of text) → Document text
readable_document text readable = go (lines_of text) refl readable
  where
    go : (lines : List Line)
        → lines_of text ≡ lines
        → IsReadable (realize (left_of text)) AtTitle lines
        → Document text
    go [] same r = let e = r.0 in absurd (cc)
    go (l1 ∷ []) same r = let e = r.1.0.1 in absurd (cc)
    go (l1 ∷ l2 ∷ []) same r = let e = r.1.1.0.1 in absurd (cc)
    go (l1 ∷ l2 ∷ l3 ∷ []) same r = let e = r.1.1.1.0.1 in absurd (cc)
    go (l1 ∷ l2 ∷ l3 ∷ l4 ∷ []) same r = let e = r.1.1.1.1.0.2 in absurd (cc)
    go (l1 ∷ l2 ∷ l3 ∷ l4 ∷ l5 ∷ rest) same r =
        let (a, answer) = r.1.0.0 in
        let decided = r.1.0.1.0 in
        let told_is : told l2 ≡ a =
        ap told answer ∙ told_back a (λ e. decided (answer ∙ e)) in
        five_lines text l1 l2 l3 l4 l5 rest same r.0.0 a answer decided
        (subst (λ b. IsReadable (realize (left_of text)) (AtInputs b) (l3 ∷ l4 ∷ l5 ∷ rest)) told_is r.1.1)
