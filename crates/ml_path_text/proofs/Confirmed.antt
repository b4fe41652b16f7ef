-- Whoever checks documents confirms the one behind the lines of a path.
--
--   run_confirmed     == of the structure of the word along a path that shows the path problem
--   path_confirmed    == so of a path of a structure that shows it
--   document_is, document_holds == so of the document that is written
--   paths_confirmed   == so of the paths that a text asks for
--   texts_confirmed   == and of what is told of one in few bytes
use Rattle.std.proofs.Common.{ℕ, ◌≡◌, ◌<◌, ◌^◌, ◌∙◌, Bool, List, ap, length, subst, sym, length-append, arith}
use Rattle.ml_base.specs.Structure.{IsStructure, Structure}
use Rattle.ml_base.specs.declared.version.Version.TheVariants.{Two}
use Rattle.ml_ctl.specs.Formula.{Formula}
use Rattle.ml_ctl.specs.Paths.{places}
use Rattle.ml_ctl.specs.WellFormed as ctl
use Rattle.ml_ctl.specs.declared.language.Language.TheVariants as language
use Rattle.ml_front.specs.declared.problem.Problem.{Problem}
use Rattle.ml_kripke.specs.ModelText.{IsWritten}
use Rattle.ml_kripke.specs.Ordered.{HasNames, IsOrdered}
use Rattle.ml_lists.specs.Lasso.{Lasso}
use Rattle.ml_model_check.specs.Checked.{IsCheckedAs}
use Rattle.ml_model_check.specs.WrittenDocument.{satisfiable_document}
use Rattle.ml_model_check.specs.declared.checked.Checked.TheVariants.{Holds}
use Rattle.ml_model_check.proofs.ReadBack.{documents_read_back}
use Rattle.ml_paths.specs.Paths.{IsShown}
use Rattle.ml_paths.specs.Runs.{IsRunOf, word_along}
use Rattle.ml_paths.proofs.WordRuns.{runs_hold, shown_are_runs}
use Rattle.ml_path_text.specs.Laws.{PathsAreConfirmed, TextsAreConfirmed}
use Rattle.ml_path_text.specs.PathProblems.{on_words}
use Rattle.ml_path_text.specs.WrittenPath.{path_document, path_lines, run_of_path}
use Rattle.ml_path_text.proofs.Documents.{asked_formula}
use Rattle.ml_path_text.proofs.PathRuns.{along_named, along_ordered, along_structure, long, loops, own_run}
use Rattle.ml_path_text.proofs.WrittenLines.{long_lines}

pub run_confirmed : (m : Structure) (s : ℕ) (f : Formula) (b : Bool) (l : Lasso) (run : Structure)
    → IsStructure m
    → ctl.IsWellFormed language.Ltl f
    → IsShown m s f b l
    → IsRunOf (word_along m l) run
    → IsWritten run 0
    → IsOrdered run
    → IsCheckedAs (satisfiable_document (on_words f b) run 0) Holds
run_confirmed m s f b l run ok well shown is written ordered =
    let holds =
    runs_hold (word_along m l) run f b (loops m l ok shown.is_path.is_path) written.is_structure is well.is_of_logic
    (shown_are_runs m s f b l well.is_of_logic shown) in (
      on_words f b,
      run,
      0,
      documents_read_back Two (on_words f b) run 0 well written ordered,
      (holds.0, (λ large. large), holds.1),
    )

pub path_confirmed : (m : Structure) (s : ℕ) (f : Formula) (b : Bool) (l : Lasso)
    → IsStructure m
    → IsOrdered m
    → HasNames m
    → ctl.IsWellFormed language.Ltl f
    → IsShown m s f b l
    → places l < 2 ^ 32
    → IsCheckedAs (path_document m l f b) Holds
path_confirmed m s f b l ok ordered named well shown few =
    let path = shown.is_path.is_path in
    let run_ok = along_structure m l ok path in
    let many = long m l ok path in
    run_confirmed m s f b l (run_of_path m l) ok well shown (own_run (word_along m l))
    (record {
      is_structure = run_ok;
      has_names = along_named m l ok path named;
      fits = omega (arith, few, many);
      is_state = run_ok.has_state;
    })
    (along_ordered m l ok path ordered)

-- the document that is written for the structure r, which is the one of the word along l
module _ (m : Structure) (l : Lasso) (f : Formula) (b : Bool)
    (text : List ℕ) (p : Problem) (r run : Structure) (start : ℕ)
    (is : text ≡ satisfiable_document p r start) (same : p ≡ on_words f b) (made : r ≡ run) (first : start ≡ 0) where
  as_written : text ≡ satisfiable_document (on_words f b) run 0
  as_written =
      is ∙ ap (λ q. satisfiable_document q r start) same ∙ ap (λ k. satisfiable_document (on_words f b) k start) made
      ∙ ap (satisfiable_document (on_words f b) run) first

  pub document_is : run ≡ run_of_path m l → text ≡ path_document m l f b
  document_is along = as_written ∙ ap (λ k. satisfiable_document (on_words f b) k 0) along

  pub document_holds : (s : ℕ)
      → IsStructure m
      → ctl.IsWellFormed language.Ltl f
      → IsShown m s f b l
      → IsRunOf (word_along m l) run
      → IsWritten r start
      → IsOrdered r
      → IsCheckedAs text Holds
  document_holds s ok well shown is_run written ordered =
      let run_written = subst (IsWritten run) first (subst (λ k. IsWritten k start) made written) in
      subst (λ t. IsCheckedAs t Holds) (sym as_written)
      (run_confirmed m s f b l run ok well shown is_run run_written (subst IsOrdered made ordered))

pub paths_confirmed : PathsAreConfirmed
paths_confirmed text p m s f b l asks shown few =
    let is = asks.is_document in
    path_confirmed m s f b l is.2.is_structure is.3 is.2.has_names (asked_formula text p m s f b asks) shown few

pub texts_confirmed : TextsAreConfirmed
texts_confirmed text out (p, m, s, f, b, asks, (speaks, few, (l, shown, is))) short =
    let document = path_document m l f b in
    let whole = ap length is in
    let sum = length-append (path_lines l) document in (
      l,
      document,
      is,
      paths_confirmed text p m s f b l asks shown (omega (arith, short, whole, sum, long_lines l)),
    )
