-- Whoever checks documents confirms those of words that break a machine or an environment.
--
--   word_loops       == such a word has a letter on its loop
--   document_holds   == the document of the structure of such a word is one at whose start its problem holds
--   text_holds       == so of the bytes that are written
--   run_written      == it has such a document, if its places are fewer than 2 ^ 32
--   shown_confirmed  == so of each word that is shown
use Rattle.std.proofs.Common.{ℕ, ◌≡◌, ◌<◌, ◌^◌, List, length, sym, subst, ◌∙◌, arith}
use Rattle.std.proofs.lemmas.List.{length-map}
use Rattle.ml_base.specs.Structure.{IsStructure, Structure}
use Rattle.ml_base.specs.declared.version.Version.TheVariants.{Two}
use Rattle.ml_ctl.specs.WellFormed.{IsWellFormed}
use Rattle.ml_ctl.specs.declared.language.Language.TheVariants.{Ltl}
use Rattle.ml_ctl.proofs.Parsed.{parsed_well}
use Rattle.ml_front.specs.declared.problem.Problem.{Problem}
use Rattle.ml_kripke.specs.ModelText.{IsWritten}
use Rattle.ml_kripke.specs.Ordered.{IsOrdered}
use Rattle.ml_machine_check.specs.Checked.{Breaks, sense_of}
use Rattle.ml_model_check.specs.Checked.{IsCheckedAs}
use Rattle.ml_model_check.specs.WrittenDocument.{satisfiable_document}
use Rattle.ml_model_check.specs.declared.checked.Checked.TheVariants as checked
use Rattle.ml_model_check.proofs.ReadBack.{documents_read_back}
use Rattle.ml_paths.specs.Runs.{IsRunOf}
use Rattle.ml_paths.proofs.WordRuns.{runs_hold}
use Rattle.ml_realize.specs.Realizing.{word_of}
use Rattle.ml_synthesis.specs.declared.outcome.Outcome.{Outcome}
use Rattle.ml_synthesis.specs.declared.outcome.Outcome.TheVariants as outcome
use Rattle.ml_task.specs.NameSets.{members}
use Rattle.ml_task.specs.Task.{IsTask, Task, names_of}
use Rattle.ml_trace.specs.WordAutomata.{IsWordLasso, WordLasso}
use Rattle.ml_machine_text.specs.Found.{problem_of}
use Rattle.ml_machine_text.specs.Laws.{ShownAreConfirmed}
use Rattle.ml_machine_text.proofs.NamedRuns.{run_named}

pub word_loops : (t : Task) (r : Outcome) (w : WordLasso ℕ) → Breaks t r w → IsWordLasso w
word_loops t (outcome.Made m) w breaks = breaks.is_word.loops
word_loops t (outcome.Defeated e) w breaks = breaks.is_word.loops

module _ (t : Task) (r : Outcome) (w : WordLasso ℕ) (m : Structure) (breaks : Breaks t r w) (ok : IsStructure m)
    (run : IsRunOf (word_of (names_of t) w) m) where
  pub document_holds : IsTask t
      → IsWellFormed Ltl t.formula
      → IsOrdered m
      → IsWritten m 0
      → IsCheckedAs (satisfiable_document (problem_of t r) m 0) checked.Holds
  document_holds is well ordered written =
      let loops = word_loops t r w breaks in
      let long = length-map w.word (members (names_of t)) in
      let holds =
      runs_hold (word_of (names_of t) w) m t.formula (sense_of r) (omega (arith, loops, long)) ok run well.is_of_logic
      breaks.satisfies in (
        problem_of t r,
        m,
        0,
        documents_read_back Two (problem_of t r) m 0 well written ordered,
        (holds.0, (λ large. large), holds.1),
      )

  -- as the program holds it
  pub text_holds : (text : List ℕ) (p : Problem) (n : Structure) (start : ℕ)
      → IsTask t
      → IsWellFormed Ltl t.formula
      → text ≡ satisfiable_document p n start
      → p ≡ problem_of t r
      → n ≡ m
      → start ≡ 0
      → IsOrdered m
      → IsWritten n start
      → IsCheckedAs text checked.Holds
  text_holds text p n start is well text_is same made first ordered written =
      subst (λ d. IsCheckedAs d checked.Holds) (sym (text_is ∙ (λ j. satisfiable_document (same j) (made j) (first j))))
      (document_holds is well ordered (subst (IsWritten m) first (subst (λ k. IsWritten k start) made written)))

  pub run_written : IsTask t → length w.word < 2 ^ 32 → IsWritten m 0
  run_written is few =
      let long = length-map w.word (members (names_of t)) in
      let one = run.one_each in
      record {
        is_structure = ok;
        has_names = run_named (names_of t) w m is.are_named ok run;
        fits = omega (arith, few, long, one);
        is_state = ok.has_state;
      }

pub shown_confirmed : ShownAreConfirmed
shown_confirmed text t r document is word few =
    let run = word.run in
    let written = run_written t r word.shown run word.breaks word.is_structure word.is_run is.is_task few in
    subst (λ d. IsCheckedAs d checked.Holds) (sym word.document_is)
    (document_holds t r word.shown run word.breaks word.is_structure word.is_run is.is_task
    (parsed_well Ltl is.formula_text t.formula is.is_parsed) word.is_ordered written)
