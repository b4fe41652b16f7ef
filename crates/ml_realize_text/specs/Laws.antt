-- What is true of the documents of machines and environments.
--
--   WrittenReadsBack  == what is written of a task and an outcome that fits it is read as them
--   OneReading        == a text is of one task and one outcome at most
--   SomeReading       == it is of some, or has a first bad line
--   TextOrFault       == never both
--   OneFault          == it has one first bad line at most, with one lowest rule
--   RulesRise         == the numbers of the rules of a line rise
use Rattle.std.specs.Prelude.{ℕ, ◌≡◌, ◌<◌, ◌^◌, ◌⊎◌, List}
use Rattle.ml_base.specs.declared.doc_fault.DocFault.{DocFault}
use Rattle.ml_ctl.specs.WellFormed.{IsWellFormed}
use Rattle.ml_ctl.specs.declared.language.Language.TheVariants.{Ltl}
use Rattle.ml_lists.specs.Readings.{NumbersRise}
use Rattle.ml_synthesis.specs.declared.outcome.Outcome.{Outcome}
use Rattle.ml_task.specs.Task.{IsTask, Task}
use Rattle.ml_realize_text.specs.ReadText.{Fits, IsRealizeText, states_of}
use Rattle.ml_realize_text.specs.RealizeRules.{IsRealizeFault, realize}
use Rattle.ml_realize_text.specs.RealizeText.{outcome_text}

-- as each task is that the program holds, its formula is well-formed
abbrev pub WrittenReadsBack : Type 0
WrittenReadsBack = (t : Task) (r : Outcome)
    → IsTask t
    → IsWellFormed Ltl t.formula
    → Fits t r
    → states_of r < 2 ^ 32
    → IsRealizeText (outcome_text t r) t r

abbrev pub OneReading : Type 0
OneReading = (text : List ℕ) (t u : Task) (r s : Outcome)
    → IsRealizeText text t r
    → IsRealizeText text u s
    → (t ≡ u) × (r ≡ s)

abbrev pub SomeReading : Type 0
SomeReading = (text : List ℕ)
    → ((t : Task) × (r : Outcome) × IsRealizeText text t r) ⊎ ((fault : DocFault) × IsRealizeFault text fault)

abbrev pub TextOrFault : Type 0
TextOrFault = (text : List ℕ) (t : Task) (r : Outcome) (fault : DocFault)
    → IsRealizeText text t r
    → ¬ (IsRealizeFault text fault)

abbrev pub OneFault : Type 0
OneFault = (text : List ℕ) (e f : DocFault) → IsRealizeFault text e → IsRealizeFault text f → e ≡ f

abbrev pub RulesRise : Type 0
RulesRise = (left : List ℕ) → NumbersRise (realize left)
