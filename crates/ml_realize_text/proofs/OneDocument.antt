-- A text is of one task and one outcome at most.
--
--   one_reading   == so it is
use Rattle.std.proofs.Common.{◌≡◌, ℕ, Bool, true, false, List, [], ◌∷◌, drop, slice_index_or, codes, refl, sym, ap, subst, ◌∙◌}
use Rattle.std.specs.List.{list_all}
use Rattle.std.specs.Str.{bytes_eq}
use Rattle.std.proofs.lemmas.Bool.{and_parts, or_from, true≢false}
use Rattle.std.proofs.lemmas.List.Folds.{list_all-append}
use Rattle.std.proofs.lemmas.Slice.Eq.{bytes_eq-Decides}
use Rattle.ml_lines.specs.Lines.{Line, Word}
use Rattle.ml_lines.specs.Reading.{word}
use Rattle.ml_synthesis.specs.declared.outcome.Outcome.{Outcome}
use Rattle.ml_synthesis.specs.declared.outcome.Outcome.TheVariants as outcome
use Rattle.ml_task.specs.Task.{IsTask, Task, are_new, is_named}
use Rattle.ml_task.specs.TaskText.{IsTaskText}
use Rattle.ml_task.proofs.OneAnswer.{one_task}
use Rattle.ml_task.proofs.ReadableTasks.{new_append}
use Rattle.ml_realize_text.specs.Laws.{OneReading}
use Rattle.ml_realize_text.specs.ReadText.{IsRealizeText}
use Rattle.ml_realize_text.proofs.Documents.{as_task, task_text, three}
use Rattle.ml_realize_text.proofs.FixedWords.{differ}
use Rattle.ml_realize_text.proofs.OneBody.{Names, one_environment, one_machine}
use Rattle.ml_realize_text.proofs.OneSet.{is_in, once_new}

-- ---- names

no_dash : (ns : List Word) → list_all is_named ns ≡ true → is_in (codes "-") ns ≡ false
no_dash [] all = refl
no_dash (n ∷ ns) all =
    let parts = and_parts (is_named n) (list_all is_named ns) all in
    or_from (bytes_eq (codes "-") n) (is_in (codes "-") ns) (go (bytes_eq (codes "-") n) refl parts.0) (no_dash ns parts.1)
  where
    go : (b : Bool) → bytes_eq (codes "-") n ≡ b → is_named n ≡ true → b ≡ false
    go false other named = refl
    go true same named =
        let is : codes "-" ≡ n = (bytes_eq-Decides (codes "-") n).0 same in
        let none : is_named (codes "-") ≡ false = refl in
        absurd (true≢false (sym named ∙ ap is_named (sym is) ∙ none))

module _ (t : Task) (is : IsTask t) where
  all_named : (list_all is_named t.inputs ≡ true) × (list_all is_named t.outputs ≡ true)
  all_named =
      and_parts (list_all is_named t.inputs) (list_all is_named t.outputs)
      (sym (list_all-append is_named t.inputs t.outputs) ∙ is.are_named)

  all_new : (are_new [] t.inputs ≡ true) × (are_new t.inputs t.outputs ≡ true)
  all_new =
      and_parts (are_new [] t.inputs) (are_new t.inputs t.outputs) (sym (new_append [] t.inputs t.outputs) ∙ is.each_once)

  inputs_named : Names t.inputs
  inputs_named = record { once = once_new [] t.inputs all_new.0; no_dash = no_dash t.inputs all_named.0 }

  outputs_named : Names t.outputs
  outputs_named = record { once = once_new t.inputs t.outputs all_new.1; no_dash = no_dash t.outputs all_named.1 }

-- ---- readings

abbrev line : ℕ → List Line → Line
line k lines = slice_index_or lines k []

abbrev behind_five : List Line → List Line
behind_five lines = drop 1 (drop 1 (drop 1 (drop 1 (drop 1 lines))))

answers_differ : (told : Word) (other : Word) → bytes_eq told other ≡ false
    → (codes "answer" ∷ told ∷ []) ≡ codes "answer" ∷ other ∷ []
    → ⊥
answers_differ told other none same = differ told other none (ap (λ l. word l 1) same)

module _ (text : List ℕ) (u : Task) where
  one_outcome : (r s : Outcome) → IsRealizeText text u r → IsRealizeText text u s → r ≡ s
  one_outcome (outcome.Made m) (outcome.Made k) a b =
      ap outcome.Made
      (one_machine u.inputs u.outputs (inputs_named u a.is_task) (outputs_named u a.is_task) m k a.fits b.fits a.few b.few
      (ap behind_five (sym a.lines_are ∙ b.lines_are)))
  one_outcome (outcome.Defeated e) (outcome.Defeated f) a b =
      ap outcome.Defeated
      (one_environment u.inputs u.outputs (inputs_named u a.is_task) (outputs_named u a.is_task) e f a.fits b.fits a.few b.few
      (ap behind_five (sym a.lines_are ∙ b.lines_are)))
  one_outcome (outcome.Made m) (outcome.Defeated e) a b =
      absurd (answers_differ (codes "realizable") (codes "unrealizable") refl (ap (line 1) (sym a.lines_are ∙ b.lines_are)))
  one_outcome (outcome.Defeated e) (outcome.Made m) a b =
      absurd (answers_differ (codes "unrealizable") (codes "realizable") refl (ap (line 1) (sym a.lines_are ∙ b.lines_are)))

pub one_reading : OneReading
one_reading text t u r s a b =
    let same = sym a.lines_are ∙ b.lines_are in
    let given = task_text text t r a in
    let lines : three text t r a ≡ three text u s b = λ i. line 2 (same i) ∷ line 3 (same i) ∷ line 4 (same i) ∷ [] in
    let as_u : IsTaskText given.0 u =
    record {
      formula_text = b.formula_text;
      lines_are = given.1 ∙ lines;
      is_parsed = b.is_parsed;
      is_task = b.is_task;
    } in
    let task_is : t ≡ u = one_task given.0 t u (as_task text t r a) as_u in
    (task_is, one_outcome text u r s (subst (λ x. IsRealizeText text x r) task_is a) b)
