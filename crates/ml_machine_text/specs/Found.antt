-- What is found in the document of a machine or an environment.
--
-- The text is the document of a task with a machine or an environment, or it has a first bad line. Of a machine or an
-- environment one thing is found: its word automaton is too large; or it is right; or it isn't, and one of its words shows it.
-- The word is shown by a document of its own. This says that a problem of LTL on words holds: the task's formula, negated for
-- a machine and plain for an environment. Its structure is that of the word, in order: a state for each place, with all names
-- of the task that are true there, and one edge by `_`, to the next place, from the last one to the loop start; it starts in
-- state 0.
--
--   problem_of t r         == the problem of LTL on words of which a word that breaks r is asked
--   ShowsWord t r d        == d is the document of a word that breaks the outcome r of the task t
--   Finds x t r            == x is found of the outcome r of t
--   IsFoundIn text x       == x is what is found in the text: of the outcome of which it is the document, or its first bad line
--   IsConfirmed x          == if x shows a word, whoever checks documents finds that its document holds
use Rattle.std.specs.Prelude.{ℕ, ◌≡◌, List}
use Rattle.ml_base.specs.Structure.{IsStructure, Structure}
use Rattle.ml_front.specs.declared.problem.AnyFormula.TheVariants.{Word}
use Rattle.ml_front.specs.declared.problem.Problem.{Problem}
use Rattle.ml_kripke.specs.Ordered.{IsOrdered}
use Rattle.ml_machine_check.specs.Checked.{Breaks, IsLarge, sense_of}
use Rattle.ml_model_check.specs.Checked.{IsCheckedAs}
use Rattle.ml_model_check.specs.WrittenDocument.{satisfiable_document}
use Rattle.ml_model_check.specs.declared.checked.Checked.TheVariants as checked
use Rattle.ml_paths.specs.Runs.{IsRunOf}
use Rattle.ml_realize.specs.Realizing.{IsRight, word_of}
use Rattle.ml_realize_text.specs.ReadText.{IsRealizeText}
use Rattle.ml_realize_text.specs.RealizeRules.{IsRealizeFault}
use Rattle.ml_synthesis.specs.declared.outcome.Outcome.{Outcome}
use Rattle.ml_task.specs.Task.{Task, names_of}
use Rattle.ml_trace.specs.WordAutomata.{WordLasso}
use Rattle.ml_machine_text.specs.declared.finding.MachineFinding.{MachineFinding}
use Rattle.ml_machine_text.specs.declared.finding.MachineFinding.TheVariants.{ClosureTooLarge, Fails, Holds, Unreadable}

abbrev pub problem_of : Task → Outcome → Problem
problem_of t r = record { formula = Word t.formula; negated = sense_of r }

pub record ShowsWord (t : Task) (r : Outcome) (document : List ℕ) : Type 0 where
  pub shown : WordLasso ℕ
  pub breaks : Breaks t r shown
  pub run : Structure
  pub is_structure : IsStructure run
  pub is_ordered : IsOrdered run
  pub is_run : IsRunOf (word_of (names_of t) shown) run
  pub document_is : document ≡ satisfiable_document (problem_of t r) run 0

abbrev pub Finds : MachineFinding → Task → Outcome → Type 0
Finds Holds t r = (¬ (IsLarge t r)) × IsRight t r
Finds (Fails document) t r = (¬ (IsLarge t r)) × ShowsWord t r document
Finds ClosureTooLarge t r = IsLarge t r
Finds (Unreadable fault) t r = ⊥

abbrev pub IsFoundIn : List ℕ → MachineFinding → Type 0
IsFoundIn text (Unreadable fault) = IsRealizeFault text fault
IsFoundIn text x = (t : Task) × (r : Outcome) × IsRealizeText text t r × Finds x t r

abbrev pub IsConfirmed : MachineFinding → Type 0
IsConfirmed (Fails document) = IsCheckedAs document checked.Holds
IsConfirmed _ = Unit {0}
